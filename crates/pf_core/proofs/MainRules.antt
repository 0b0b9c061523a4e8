-- The main rules stay if only other rulesets are replaced.
use Rattle.std.proofs.Common.{◌≡◌, Bool, true, false, cond, List, [], ◌∷◌, refl, ap, ◌∙◌}
use Rattle.std.specs.List.{list_any}
use Rattle.pf_addr.specs.Path.Paths.{same_path}
use Rattle.pf_rule.specs.Rules.{PlainRule}
use Rattle.pf_anchor.specs.{Configurations.{PlainConfig, with_rulesets}, Laws.Configurations.rules_by, Rulesets.{PlainPlaced, rules_at}}
use Rattle.pf_anchor.proofs.RulesetMaps.{replaced_in_turn}

not-by : (rs : List PlainPlaced) (old : List PlainRule) → list_any (λ (r : PlainPlaced). same_path r.0 []) rs ≡ false → rules_by rs [] old ≡ old
not-by [] old h = refl
not-by (r ∷ rs) old h = by (same_path r.0 []) refl h (λ none. not-by rs old none) where
  by : (b : Bool) → same_path r.0 [] ≡ b → list_any (λ (x : PlainPlaced). same_path x.0 []) (r ∷ rs) ≡ false → (list_any (λ (x : PlainPlaced). same_path x.0 []) rs ≡ false → rules_by rs [] old ≡ old) → rules_by (r ∷ rs) [] old ≡ old
  by true is none later = absurd (cc (is, none))
  by false is none later = ap (λ (x : Bool). rules_by rs [] (cond x r.1 old)) is ∙ later (cc (is, none))

pub stays : (rs : List PlainPlaced) (c : PlainConfig) → list_any (λ (r : PlainPlaced). same_path r.0 []) rs ≡ false → rules_at [] (with_rulesets c rs).rulesets ≡ rules_at [] c.rulesets
stays rs c h = replaced_in_turn rs c.rulesets [] ∙ not-by rs (rules_at [] c.rulesets) h
