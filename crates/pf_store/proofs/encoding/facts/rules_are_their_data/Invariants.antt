use Rattle.std.proofs.Common.{◌≡◌, map, take}
use Rattle.pf_rule.specs.Sum.{Layouts.plain_rule, Reading.rule_of}
use Rattle.pf_store.proofs.encoding.facts.rules_are_their_data.Given as goal

-- all that were looked at
abbrev pub invariant-loop-rule : goal.invariant-loop-rule
invariant-loop-rule l = map rule_of (map plain_rule (take l.rule-index l.rules)) ≡ take l.rule-index l.rules
