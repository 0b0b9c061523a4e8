use Rattle.std.proofs.Common.{◌≡◌, map, take}
use Rattle.pf_conf.specs.Rulesets.{PlacedRule}
use Rattle.pf_rule.specs.RuleText.{rule_text}
use Rattle.pf_load.proofs.changes.rule_texts.Given as goal

abbrev pub invariant-loop-rule : goal.invariant-loop-rule
invariant-loop-rule l = l.texts.items ≡ map (λ (r : PlacedRule). rule_text r.is) (take l.rule-index l.rules)
