use Rattle.std.proofs.Common.{◌≡◌, ◌+◌, ◌/◌, ◌^◌, ◌<◌, refl, sym, subst, arith}
use Rattle.std.proofs.lemmas.Result.{IfOk-weaker}
use Rattle.std.specs.Arc.{arc_value}
use Rattle.pf_trie.specs.{Prefixes.with_sign, Rows.AreRows, Forks.IsForkOf}
use Rattle.pf_trie.proofs.ForkSlots.{fork_below, fork_above}
use Rattle.pf_trie.proofs.branch.BranchLevel.replace.Goals as goal

pub returns-in-Some : goal.returns-in-Some
returns-in-Some g c = IfOk-weaker c.replace_in_fork.result _ _ (λ _ kept s lt is.
    let p = c.args.prefix in
    let top = c.args.top in
    let at = c.saturating_sub.result in
    let held : IsForkOf g.T.Level.holds s top (p.address / 2 ^ top) (arc_value c.in-Some.fork) = rw c.in-Some.is at is in
    let deep = held.deep in
    let whole : at + 4 ≡ top = omega (arith, c.saturating_sub.ensures, deep) in
    let less : p.free < at + 4 = omega (arith, lt, whole) in
    let slots = fork_below g.T.Level.holds s top at p.address (arc_value c.in-Some.fork) c.saturating_sub.ensures held in
    fork_above g.T.Level.holds (with_sign s p c.args.sign) top at p.address (arc_value c.replace_in_fork.new.fork) whole (kept s less slots))
    c.replace_in_fork.ensures

pub returns-then-fits : goal.returns-then-fits
returns-then-fits g c = λ s lt is.
    let p = c.args.prefix in
    let front = p.address / 2 ^ c.args.top in
    let held : AreRows s c.args.top front c.args.self.now.page = rw c.in_default.is at is in
    let done : AreRows (with_sign s p c.args.sign) c.args.top front c.edit.new.self = c.in_ok-edit.ensures s c.args.top front held lt refl in
    rw c.in_default.is done

pub returns : goal.returns
returns g c = λ s lt is.
    let p = c.args.prefix in
    let front = p.address / 2 ^ c.args.top in
    let held : AreRows s c.args.top front c.args.self.now.page = rw c.in_default.is at is in
    let done : AreRows (with_sign s p c.args.sign) c.args.top front c.edit.new.self = c.in_ok-edit.ensures s c.args.top front held lt refl in
    c.in_ok-self.ensures (with_sign s p c.args.sign) (subst (AreRows (with_sign s p c.args.sign) c.args.top front) (sym c.replace-page.ensures.value) done)
