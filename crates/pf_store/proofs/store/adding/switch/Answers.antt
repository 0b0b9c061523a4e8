use Rattle.std.proofs.Common.{◌≡◌, ◌≤◌, ℕ, Bool, true, false, cond, arith, rules, subst}
use Rattle.pf_disk.proofs.Writing.{at_most, failed_as, unmoved, weakened}
use Rattle.pf_snap.specs.{Faults.is_switch_fault, Ready.IsTurned}
use Rattle.pf_store.proofs.{Durables.within_formed, WithinLimits.made_within, Saving.{have_switched, not_called, of_switch}}
use Rattle.pf_store.proofs.store.adding.switch.Goals as goal

six : (b : Bool) → cond b 6 4 ≤ 6
six true = omega arith
six false = omega arith

-- the core's limits are those of the form
pub fill_next-requires-clause-formed : goal.fill_next-requires-clause-formed
fill_next-requires-clause-formed g c =
    let d = c.args.durable.now in
    let within = made_within c.requires.kept.content d c.requires.kept.makes in
    within_formed d within.rulesets within.tables

pub returns-in_err-fill_next-clause-writes : goal.returns-in_err-fill_next-clause-writes
returns-in_err-fill_next-clause-writes g c =
    let none : is_switch_fault c.from_residual.result ≡ false = search rules in
    failed_as none (unmoved g.D.Disk c.args.banks.now.journal.disk (g.met.D.Disk.only_now c.args.banks.now.journal.disk) (not_called c.requires.kept c.requires.ready))

pub returns-in_err-begin-clause-writes : goal.returns-in_err-begin-clause-writes
returns-in_err-begin-clause-writes g c =
    let some : is_switch_fault c.from_residual-in_err-begin.result ≡ true = search rules in
    failed_as some (at_most {most = 6} (weakened c.in_err-begin.ensures.writes (of_switch c.requires.kept c.fill_next.new.next c.in_ok-fill_next.ensures.made)) (six c.args.banks.now.other_is_open))

pub returns-clause-writes : goal.returns-clause-writes
returns-clause-writes g c =
    at_most {most = 6} (weakened c.in_ok-begin.ensures.writes (of_switch c.requires.kept c.fill_next.new.next c.in_ok-fill_next.ensures.made)) (six c.args.banks.now.other_is_open)

pub returns-clause-turned : goal.returns-clause-turned
returns-clause-turned g c = subst (λ (n : ℕ). IsTurned g.D.Disk.seen c.args.banks.now c.begin.new.self n) c.in_ok-fill_next.ensures.long c.in_ok-begin.ensures.turned

pub returns-clause-kept : goal.returns-clause-kept
returns-clause-kept g c =
    let k = c.requires.kept in
    let next = c.in_ok-fill_next.ensures.made in
    have_switched c.begin.new.self next.snapshot k next.written (c.in_ok-begin.ensures.kept k.content next.snapshot k.keeps next.next)
