use Rattle.std.proofs.Common.{◌≡◌, [], sym, subst, arith}
use Rattle.pf_trie.specs.Rows.{AreRows}
use Rattle.pf_trie.proofs.RowLists.{none_before}
use Rattle.pf_trie.proofs.page.Page.signs.Goals as goal

pub returns-in-None : goal.returns-in-None
returns-in-None c = λ s top front are in_front.
    let empty : [] ≡ c.args.self.now = rw c.in-None.is at c.self.view_is in
    none_before s top front c.args.address [] c.none.result (subst (AreRows s top front) (sym empty) are) in_front
    (record {
      within = omega arith;
      before = λ order k d low high. absurd (omega (arith, high));
      beyond = λ order k d low high. absurd (omega (arith, high));
    })
    c.none.ensures
