-- What laws say of the rules of a ruleset.
use Rattle.std.specs.Prelude.{◌≡◌, List, [], ◌∷◌, ◌++◌, map, Ok}
use Rattle.pf_rule.specs.Rules.{PlainRule}
use Rattle.pf_lists.specs.Multiplied.{multiplied}
use Rattle.pf_parse.specs.declared.tree.Product.{Product}
use Rattle.pf_conf.specs.Rulesets.{PlacedRule, rule_at}

-- These are, one after another, the rules that each written one's lists stand for, where its first word stands.
abbrev pub AreRulesOf : List Product → List PlacedRule → Type 0
AreRulesOf [] rules = rules ≡ []
AreRulesOf (w ∷ ws) rules =
    (own : List PlainRule) × (others : List PlacedRule) × (multiplied w.lists ≡ Ok own) × AreRulesOf ws others
    × (rules ≡ map (rule_at w.place) own ++ others)
