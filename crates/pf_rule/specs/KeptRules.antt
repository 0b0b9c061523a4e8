-- How a rule is kept: its effect and its label stand in one place, since only an anchor rule has a reference and no anchor rule a label.
use Rattle.std.specs.Prelude.{◌≡◌, ℕ, List, Option, Some, None}
use Rattle.std.proofs.Common.{refl, ap}
use Rattle.pf_rule.specs.declared.{rule.Rule.TheInside.Inside, rule.LabelledEffect.{LabelledEffect, TheVariants.Plain, TheVariants.Labelled, TheVariants.Anchor}, rule.Effect.{Effect, TheVariants.Decide, TheVariants.Evaluate}}
use Rattle.pf_rule.specs.Rules.{PlainRule, IsRule}

abbrev pub effect_in : LabelledEffect → Effect
effect_in (Plain a) = Decide a
effect_in (Labelled label a) = Decide a
effect_in (Anchor r) = Evaluate r

abbrev pub label_in : LabelledEffect → Option (List ℕ)
label_in (Plain a) = None
label_in (Labelled label a) = Some label
label_in (Anchor r) = None

-- with its label, where it may have one
abbrev pub labelled : Effect → Option (List ℕ) → LabelledEffect
labelled (Decide a) None = Plain a
labelled (Decide a) (Some label) = Labelled label a
labelled (Evaluate r) label = Anchor r

abbrev pub rule_kept : Inside → PlainRule
rule_kept r = record {
  source = r.source;
  destination = r.destination;
  effect = effect_in r.effect;
  label = label_in r.effect;
  interface = r.interface;
  source_port = r.source_port;
  destination_port = r.destination_port;
  direction = r.direction;
  quick = r.quick;
  family = r.family;
  protocol = r.protocol;
}

abbrev pub IsKept : Inside → Type 0
IsKept r = IsRule (rule_kept r)

abbrev inside_with : Inside → LabelledEffect → Inside
inside_with r e = record r { effect = e }

abbrev pub inside_of : PlainRule → Inside
inside_of r = record {
  source = r.source;
  destination = r.destination;
  effect = labelled r.effect r.label;
  interface = r.interface;
  source_port = r.source_port;
  destination_port = r.destination_port;
  direction = r.direction;
  quick = r.quick;
  family = r.family;
  protocol = r.protocol;
}

labelled_again : (e : LabelledEffect) → labelled (effect_in e) (label_in e) ≡ e
labelled_again (Plain a) = refl
labelled_again (Labelled label a) = refl
labelled_again (Anchor r) = refl

pub inside_of-kept : (r : Inside) → IsKept r → inside_of (rule_kept r) ≡ r
inside_of-kept r is = ap (inside_with r) (labelled_again r.effect)
