use Rattle.std.proofs.Common.{ℕ, List, length, ◌≤◌, sym, ap, ◌∙◌, subst}
use Rattle.std.specs.List.{insert}
use Rattle.pf_trie.specs.declared.rows.Row.{Row}
use Rattle.pf_trie.specs.{Rows.AreRowsWith, Indexes.{digit_at, IsIndex}}
use Rattle.pf_trie.proofs.indexed.Indexed.with_row.Goals as goal

pub returns-in_default : goal.returns-in_default
returns-in_default c = λ s top front are in_front.
    let has = rw c.self.view_is at c.in_default.ensures.has in
    has s top front c.up_to-place.ensures are

pub by-requires-clause-index : goal.by-requires-clause-index
by-requires-clause-index c =
    let rows = c.self.inside.rows in
    let shift = c.self.inside.shift in
    let place = c.up_to-place.result in
    let within : place ≤ length rows = subst (λ (v : List Row). place ≤ length v) (sym c.self.view_is) c.up_to-place.ensures.within in
    subst (λ (v : List Row). IsIndex shift c.with_one_more-before.result v) (sym c.in_ok-rows.ensures)
    (c.with_one_more-before.ensures shift place rows c.in-Some.row within (c.digit_of.ensures.value ∙ ap (λ (a : ℕ). digit_at shift a) (sym c.in-Some.ensures.address))
    c.self.invariant.1)

pub returns : goal.returns
returns c = λ s top front are in_front.
    let lacks = rw c.self.view_is at c.in-Some.ensures.lacks in
    let made = ap (λ (v : List Row). insert v c.up_to-place.result c.in-Some.row) c.self.view_is in
    subst (λ (v : List Row). AreRowsWith s top front c.args.address v) (sym (c.by.ensures ∙ c.in_ok-rows.ensures ∙ made))
    (lacks s top front c.up_to-place.ensures are in_front)
