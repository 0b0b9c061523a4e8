use Rattle.std.proofs.Common.{◌≡◌, ◌+◌, ◌*◌, ◌&&◌, Bool, true, false, List, Option, Some, None, refl, ap, ◌∙◌}
use Rattle.std.specs.Prelude.{slice_get}
use Rattle.pf_rule.specs.Rules.{PlainRule, matches}
use Rattle.pf_lanes.specs.{Masks.is_set, Answered.bit_by}
use Rattle.pf_lanes.proofs.Places.{eight_get}
use Rattle.pf_lanes.proofs.plain.asked_in.Goals as goal

outside : (wanted : Bool) (test : PlainRule → Bool) (o : Option PlainRule) → bit_by (λ r. wanted && test r) o ≡ (wanted && bit_by test o)
outside wanted test (Some r) = refl
outside true test None = refl
outside false test None = refl

pub returns : goal.returns
returns g c i lt =
    let test : PlainRule → Bool = λ r. matches (g.T.TableAnswers.says c.args.tables.now) r c.args.packet.now in
    let wanted = is_set c.args.wanted i in
    c.asked.ensures i lt
    ∙ ap (λ (o : Option PlainRule). bit_by (λ r. wanted && test r) o)
    (ap (λ (rs : List PlainRule). slice_get rs i) c.eight_of.ensures.value ∙ eight_get c.args.rules.now (8 * c.args.block) i lt)
    ∙ outside wanted test (slice_get c.args.rules.now (8 * c.args.block + i))
