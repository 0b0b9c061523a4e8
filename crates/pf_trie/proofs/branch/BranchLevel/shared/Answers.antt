use Rattle.std.proofs.Common.{List, sym, subst}
use Rattle.pf_trie.specs.declared.rows.Row.{Row}
use Rattle.pf_trie.specs.Rows.{AreRows}
use Rattle.pf_trie.proofs.branch.BranchLevel.shared.Goals as goal

pub returns-in_ok-another-in-None : goal.returns-in_ok-another-in-None
returns-in_ok-another-in-None g c = λ s top front is.
    c.of_page.ensures s top front (subst (λ (v : List Row). AreRows s top front v) (sym c.in_ok-another-in-None.ensures) (rw c.in-None.is at is))
