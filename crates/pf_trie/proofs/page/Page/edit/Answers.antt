use Rattle.std.proofs.Common.{◌≡◌, [], ◌∙◌, sym, subst}
use Rattle.std.specs.Arc.{arc_value}
use Rattle.pf_trie.specs.{Prefixes.with_sign, Rows.AreRows}
use Rattle.pf_trie.proofs.page.Page.edit.Goals as goal

pub returns-in-Some : goal.returns-in-Some
returns-in-Some c = λ s top front are less in_front.
    let held : arc_value c.in-Some.rows ≡ c.args.self.now = rw c.in-Some.is at c.self.view_is in
    subst (AreRows (with_sign s c.args.prefix c.args.sign) top front) (sym c.let_go.ensures)
    (c.in_ok-edit_shared.ensures s top front (subst (AreRows s top front) (sym held) are) less in_front)

pub returns : goal.returns
returns c = λ s top front are less in_front.
    let empty : [] ≡ c.args.self.now = rw c.in_default.is at c.self.view_is in
    let rows = subst (AreRows s top front) (sym (c.none-none.ensures ∙ empty)) are in
    subst (AreRows (with_sign s c.args.prefix c.args.sign) top front) (sym c.branch.view_is)
    (subst (AreRows (with_sign s c.args.prefix c.args.sign) top front) (sym c.in_ok-self-inside.ensures)
    (c.in_ok-edited.ensures s top front rows less in_front))
