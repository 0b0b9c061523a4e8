use Rattle.std.proofs.Common.{map, take}
use Rattle.std.specs.List.{AllByRecursion}
use Rattle.pf_form.specs.Bytes.Forms.{Fits}
use Rattle.pf_rule.specs.Sum.Layouts.{rule_layout, plain_rule}
use Rattle.pf_rule.proofs.sum.layout.rules_fit.Given as goal

abbrev pub invariant-loop-rule : goal.invariant-loop-rule
invariant-loop-rule l = AllByRecursion (Fits (rule_layout l.version)) (map plain_rule (take l.rule-index l.rules))
