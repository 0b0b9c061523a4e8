use Rattle.std.proofs.Common.{◌≡◌, sym, ap, ◌∙◌}
use Rattle.pf_addr.specs.Path.Nested.{is_child}
use Rattle.pf_anchor.specs.Known.{PlainKnown}
use Rattle.pf_anchor.proofs.GivenAt.{next_is_none}
use Rattle.pf_anchor.proofs.known.given_onward.Goals as goal

pub returns-else-is_sibling : goal.returns-else-is_sibling
returns-else-is_sibling c = λ p is.
    let own = ap (is_child p) c.key.ensures ∙ is in
    let key : c.key-2.result.now ≡ c.in-Some.next.now.0.0 = c.key-2.ensures ∙ ap (λ (k : PlainKnown). k.0.0) c.next.view_is in
    next_is_none p c.args.placed.now c.args.following.now c.in-Some.next.now c.requires.sorted c.in-Some.ensures.item.3.0 c.in-Some.ensures.item.1 is
    (ap (is_child p) (sym key) ∙ sym (c.is_sibling.ensures p own) ∙ c.if-is_sibling.false)
