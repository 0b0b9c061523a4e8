use Rattle.std.proofs.Common.{◌≡◌, sym, ap, ◌∙◌}
use Rattle.pf_addr.specs.Path.Nested.{is_child}
use Rattle.pf_anchor.specs.Known.{PlainKnown}
use Rattle.pf_anchor.proofs.GivenAt.{past_front, children_there, no_children_there, no_children_past}
use Rattle.pf_anchor.proofs.known.given_below.Goals as goal

pub returns-in_default : goal.returns-in_default
returns-in_default c =
    let n = c.count_up_to-place.result in
    let place = past_front c.args.path.now c.args.known.now n c.depth_of.result _ c.depth_of.ensures.value c.put_front-len.ensures.front c.count_up_to-place.ensures.place in
    sym (no_children_past c.args.path.now c.args.known.now n place c.in_default.ensures.lookup.3)

pub returns-then-is_child_of : goal.returns-then-is_child_of
returns-then-is_child_of c =
    let n = c.count_up_to-place.result in
    let place = past_front c.args.path.now c.args.known.now n c.depth_of.result _ c.depth_of.ensures.value c.put_front-len.ensures.front c.count_up_to-place.ensures.place in
    let key : c.key.result.now ≡ c.in-Some.first.now.0.0 = c.key.ensures ∙ ap (λ (k : PlainKnown). k.0.0) c.first.view_is in
    c.copied.ensures ∙ ap (λ (k : PlainKnown). k.2) c.first.view_is
    ∙ sym (children_there c.args.path.now c.args.known.now n c.in-Some.first.now c.requires place
    c.in-Some.ensures.lookup.3.0 c.in-Some.ensures.lookup.1 (ap (is_child c.args.path.now) (sym key) ∙ sym c.is_child_of.ensures.value ∙ c.if-is_child_of.true))

pub returns-else-is_child_of : goal.returns-else-is_child_of
returns-else-is_child_of c =
    let n = c.count_up_to-place.result in
    let place = past_front c.args.path.now c.args.known.now n c.depth_of.result _ c.depth_of.ensures.value c.put_front-len.ensures.front c.count_up_to-place.ensures.place in
    let key : c.key.result.now ≡ c.in-Some.first.now.0.0 = c.key.ensures ∙ ap (λ (k : PlainKnown). k.0.0) c.first.view_is in
    sym (no_children_there c.args.path.now c.args.known.now n c.in-Some.first.now c.requires place
    c.in-Some.ensures.lookup.3.0 c.in-Some.ensures.lookup.1 (ap (is_child c.args.path.now) (sym key) ∙ sym c.is_child_of.ensures.value ∙ c.if-is_child_of.false))
