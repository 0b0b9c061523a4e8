-- A rule has the parts that it was made of.
use Rattle.std.proofs.Common.{◌≡◌, ℕ, List, Option, Some, None, refl, sym}
use Rattle.pf_rule.specs.declared.rule.Effect.{Effect, TheVariants.Decide, TheVariants.Evaluate}
use Rattle.pf_rule.specs.{Rules.{PlainRule, LabelFits, IsRule}, KeptRules.{effect_in, label_in, labelled, rule_kept, inside_of}}

effect_again : (e : Effect) (label : Option (List ℕ)) → effect_in (labelled e label) ≡ e
effect_again (Decide a) None = refl
effect_again (Decide a) (Some label) = refl
effect_again (Evaluate r) label = refl

label_again : (e : Effect) (label : Option (List ℕ)) → LabelFits e label → label_in (labelled e label) ≡ label
label_again (Decide a) None fits = refl
label_again (Decide a) (Some label) fits = refl
label_again (Evaluate r) label none = sym none

pub parts_again : (r : PlainRule) → IsRule r → rule_kept (inside_of r) ≡ r
parts_again r is = λ i. record r { effect = effect_again r.effect r.label i; label = label_again r.effect r.label is.label i }
