use Rattle.std.proofs.Common.{◌≡◌, ◌+◌, ◌/◌, ◌^◌, ℕ, List, sym, subst, arith}
use Rattle.std.specs.Arc.{arc_value}
use Rattle.pf_trie.specs.declared.signs.Signs.{Signs}
use Rattle.pf_trie.specs.{Prefixes.Finds, Forks.{IsFork, IsForkOf}}
use Rattle.pf_trie.proofs.ForkSlots.{fork_below}
use Rattle.pf_trie.proofs.branch.BranchLevel.longest.Goals as goal

pub returns-in-Some : goal.returns-in-Some
returns-in-Some g c = λ s is.
    let at = c.saturating_sub.result in
    let own : IsForkOf g.T.Level.holds s c.args.top (c.args.address / 2 ^ c.args.top) (arc_value c.in-Some.fork) = rw c.in-Some.is at is in
    let deep = own.deep in
    let whole : at + 4 ≡ c.args.top = omega (arith, c.saturating_sub.ensures, deep) in
    let slots = fork_below g.T.Level.holds s c.args.top at c.args.address (arc_value c.in-Some.fork) c.saturating_sub.ensures own in
    subst (λ (n : ℕ). Finds s 0 n c.args.address c.longest.result) whole (c.longest.ensures s
    (subst (λ (v : List (Signs × g.row.T.Denot)). IsFork g.T.Level.holds s at (c.args.address / 2 ^ at / 16) v) (sym c.deref.ensures) slots))
