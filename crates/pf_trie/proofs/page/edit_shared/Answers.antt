use Rattle.std.proofs.Common.{◌≡◌, sym, subst}
use Rattle.std.proofs.lemmas.Result.{IfOk-weaker}
use Rattle.std.specs.Arc.{arc_value}
use Rattle.pf_trie.specs.{Prefixes.with_sign, Rows.AreRows}
use Rattle.pf_trie.proofs.page.edit_shared.Goals as goal

pub returns-in-Some : goal.returns-in-Some
returns-in-Some c = IfOk-weaker c.edit_own.result _ _ (λ _ is s top front are less in_front.
    is s top front (subst (AreRows s top front) (sym c.in-Some.ensures.value) are) less in_front) c.edit_own.ensures

pub returns : goal.returns
returns c = λ s top front are less in_front.
    let there : c.deref.result.now ≡ arc_value c.args.rows.now = cc in
    subst (AreRows (with_sign s c.args.prefix c.args.sign) top front) (sym c.in_ok-rows.ensures.ok)
    (c.in_ok-copy.ensures s top front (subst (AreRows s top front) (sym there) are) less in_front)
