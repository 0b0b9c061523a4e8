use Rattle.std.proofs.Common.{◌≡◌, sym, ap, ◌∙◌}
use Rattle.pf_addr.specs.Path.Paths.{same_path}
use Rattle.pf_anchor.specs.Known.{PlainKnown}
use Rattle.pf_anchor.proofs.GivenAt.{at_path, at_the_place, not_at_the_place, no_place}
use Rattle.pf_anchor.proofs.known.given_at.Goals as goal

pub returns-in_default : goal.returns-in_default
returns-in_default c =
    let n = c.count_before-place.result in
    let place = at_path c.args.path.now c.args.known.now n c.depth_of.result c.as_bytes.result.now c.depth_of.ensures.value c.as_bytes.ensures.value c.count_before-place.ensures.place in
    sym (no_place c.args.path.now c.args.known.now n place c.in_default.ensures.lookup.3)

pub returns-then-same : goal.returns-then-same
returns-then-same c =
    let n = c.count_before-place.result in
    let place = at_path c.args.path.now c.args.known.now n c.depth_of.result c.as_bytes.result.now c.depth_of.ensures.value c.as_bytes.ensures.value c.count_before-place.ensures.place in
    let key : c.key.result.now ≡ c.in-Some.one.now.0.0 = c.key.ensures ∙ ap (λ (k : PlainKnown). k.0.0) c.one.view_is in
    c.copied.ensures ∙ ap (λ (k : PlainKnown). k.1) c.one.view_is
    ∙ sym (at_the_place c.args.path.now c.args.known.now n c.in-Some.one.now c.requires place
    c.in-Some.ensures.lookup.3.0 c.in-Some.ensures.lookup.1 (ap (same_path c.args.path.now) (sym key) ∙ sym c.same.ensures ∙ c.if-same.true))

pub returns-else-same : goal.returns-else-same
returns-else-same c =
    let n = c.count_before-place.result in
    let place = at_path c.args.path.now c.args.known.now n c.depth_of.result c.as_bytes.result.now c.depth_of.ensures.value c.as_bytes.ensures.value c.count_before-place.ensures.place in
    let key : c.key.result.now ≡ c.in-Some.one.now.0.0 = c.key.ensures ∙ ap (λ (k : PlainKnown). k.0.0) c.one.view_is in
    sym (not_at_the_place c.args.path.now c.args.known.now n c.in-Some.one.now c.requires place
    c.in-Some.ensures.lookup.3.0 c.in-Some.ensures.lookup.1 (ap (same_path c.args.path.now) (sym key) ∙ sym c.same.ensures ∙ c.if-same.false))
