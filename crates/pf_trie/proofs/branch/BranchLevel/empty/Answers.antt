use Rattle.std.proofs.Common.{List, sym, subst}
use Rattle.pf_trie.specs.declared.rows.Row.{Row}
use Rattle.pf_trie.specs.Rows.{AreRows}
use Rattle.pf_trie.proofs.branch.BranchLevel.empty.Goals as goal

pub returns : goal.returns
returns g c = λ s top front are.
    c.of_page.ensures s top front (subst (λ (v : List Row). AreRows s top front v) (sym c.none.ensures) are)
