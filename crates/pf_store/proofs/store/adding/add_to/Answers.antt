use Rattle.std.proofs.Common.{◌≡◌, ◌+◌, ◌∙◌, ℕ, Bool, true, false, Err, refl, sym, ap, arith, rules}
use Rattle.std.proofs.lemmas.Result.{err_from_is_err_and}
use Rattle.std.specs.Prelude.{if◌then◌else◌}
use Rattle.pf_disk.proofs.Writing.{and_then, at_most, failed_as, unmoved, weakened}
use Rattle.pf_snap.specs.{Faults.is_switch_fault, declared.{fault.SwitchFault.SwitchFault, fault.SwitchFault.TheVariants.{Memory, Fault}, header.TheConstants.NEWEST}}
use Rattle.pf_store.specs.StoreFaults.{is_add_fault, switched_to}
use Rattle.pf_store.proofs.Saving.{have_added, not_called, not_yet, of_append}
use Rattle.pf_store.proofs.store.adding.add_to.Goals as goal

-- the version that a record is in
version_here : (here b : Bool) (own : ℕ) → here ≡ b → (if here then own else NEWEST) ≡ (if b then own else NEWEST)
version_here here b own is = ap (λ (t : Bool). if t then own else NEWEST) is

same_fault : (fault : SwitchFault) → is_add_fault {T = Unit {0}} (Err (switched_to fault)) ≡ is_switch_fault {T = Unit {0}} (Err fault)
same_fault Memory = refl
same_fault Fault = refl

pub returns-then-not-snapshot_leaves_room-clause-writes : goal.returns-then-not-snapshot_leaves_room-clause-writes
returns-then-not-snapshot_leaves_room-clause-writes g c =
    unmoved g.D.Disk c.args.banks.now.journal.disk (g.met.D.Disk.only_now c.args.banks.now.journal.disk) (λ i image. not_yet c.args.durable.now i (not_called c.requires.kept c.requires.ready i image))

pub returns-in_err-append_record-clause-writes : goal.returns-in_err-append_record-clause-writes
returns-in_err-append_record-clause-writes g c =
    let b = c.args.banks.now in
    let some : is_add_fault c.from_residual.result ≡ true = search rules in
    failed_as some
    (at_most {most = 10} (weakened c.in_err-append_record.ensures.writes
    (of_append c.requires.kept (g.D.Disk.seen b.journal.disk) refl (b.generation + 1) (omega arith) _ (version_here c.args.here true b.version c.if-here.true) c.args.added.now c.requires.made)) (omega arith))

pub returns-then-here-clause-writes : goal.returns-then-here-clause-writes
returns-then-here-clause-writes g c =
    let b = c.args.banks.now in
    at_most {most = 10} (weakened c.in_ok-append_record.ensures.writes
    (of_append c.requires.kept (g.D.Disk.seen b.journal.disk) refl (b.generation + 1) (omega arith) _ (version_here c.args.here true b.version c.if-here.true) c.args.added.now c.requires.made)) (omega arith)

pub returns-then-here-clause-kept : goal.returns-then-here-clause-kept
returns-then-here-clause-kept g c xs is follows =
    have_added c.requires.kept c.append_record.new.self _ (version_here c.args.here true c.args.banks.now.version c.if-here.true) c.args.added.now c.in_ok-append_record.ensures.kept xs is follows

pub returns-in_err-switch-clause-writes : goal.returns-in_err-switch-clause-writes
returns-in_err-switch-clause-writes g c =
    let fault = c.in_err-switch.field-0.0 in
    let p = err_from_is_err_and c.from_residual-in_err-switch.result c.from_residual-in_err-switch.ensures.1 in
    failed_as (ap is_add_fault p.1 ∙ ap (λ e. is_add_fault {T = Unit {0}} (Err e)) p.2 ∙ same_fault fault)
    (at_most {most = 10} (weakened c.in_err-switch.ensures.writes (not_yet c.args.durable.now)) (omega arith))

pub returns-in_err-append_record-2-clause-writes : goal.returns-in_err-append_record-2-clause-writes
returns-in_err-append_record-2-clause-writes g c =
    let b = c.args.banks.now in
    let turned = c.in_ok-switch.ensures.turned in
    let first = c.in_ok-switch.ensures.writes in
    let some : is_add_fault c.from_residual-in_err-append_record-2.result ≡ true = search rules in
    failed_as some
    (and_then {most = 10} (weakened first (not_yet c.args.durable.now))
    (weakened c.in_err-append_record-2.ensures.writes
    (of_append c.in_ok-switch.ensures.kept (g.D.Disk.seen b.journal.disk) first.same_size (b.generation + 1) (omega (arith, turned.generation)) _ (version_here c.args.here false b.version c.if-here.false ∙ sym turned.version)
    c.args.added.now c.requires.made)) (omega arith))

pub returns-clause-writes : goal.returns-clause-writes
returns-clause-writes g c =
    let b = c.args.banks.now in
    let turned = c.in_ok-switch.ensures.turned in
    let first = c.in_ok-switch.ensures.writes in
    and_then {most = 10} (weakened first (not_yet c.args.durable.now))
    (weakened c.in_ok-append_record-2.ensures.writes
    (of_append c.in_ok-switch.ensures.kept (g.D.Disk.seen b.journal.disk) first.same_size (b.generation + 1) (omega (arith, turned.generation)) _ (version_here c.args.here false b.version c.if-here.false ∙ sym turned.version)
    c.args.added.now c.requires.made)) (omega arith)

pub returns-clause-kept : goal.returns-clause-kept
returns-clause-kept g c xs is follows =
    have_added c.in_ok-switch.ensures.kept c.append_record-2.new.self _ (version_here c.args.here false c.args.banks.now.version c.if-here.false ∙ sym c.in_ok-switch.ensures.turned.version) c.args.added.now
    c.in_ok-append_record-2.ensures.kept xs is follows
