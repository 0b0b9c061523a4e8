use Rattle.std.proofs.Common.{Some, ℕ, List, sym, subst}
use Rattle.pf_trie.specs.declared.rows.Row.{Row}
use Rattle.pf_trie.specs.{Prefixes.first_of, Rows.{AreRowsWith, IsUpTo}}
use Rattle.pf_trie.proofs.{RowLists.marked_rows, IndexEdits.{index_as, alike_as}}
use Rattle.pf_trie.proofs.indexed.Indexed.marked.Goals as goal

pub invariant_of-result : goal.invariant_of-result
invariant_of-result c =
    let rows = c.self.inside.rows in
    let made = c.in_ok-mark.field-0 in
    let same = c.in_ok-mark.ensures.addresses in (
      c.self.invariant.0,
      index_as rows made same c.self.inside.shift c.self.inside.before c.self.invariant.1,
      alike_as rows made same c.self.inside.shift c.self.inside.front c.self.invariant.2,
    )

pub returns : goal.returns
returns c = λ s top front held less.
    let p = c.args.prefix in
    let rows : AreRowsWith s top front (first_of p) c.self.inside.rows =
    subst (λ (v : List Row). AreRowsWith s top front (first_of p) v) (sym c.self.view_is) held in
    let up = subst (λ (v : List Row). IsUpTo v (first_of p) c.up_to-count.result) (sym c.self.view_is)
    (subst (λ (a : ℕ). IsUpTo c.args.self a c.up_to-count.result) c.first.ensures c.up_to-count.ensures) in
    marked_rows s p (Some c.args.sign) top less front c.self.inside.rows c.in_ok-mark.field-0 (c.in_ok-mark.ensures.marks up rows.are.order) rows.are
    (λ x _. rows.there)
