use Rattle.std.proofs.Common.{◌≡◌, ◌++◌, map}
use Rattle.pf_conf.specs.Rulesets.{rule_at}
use Rattle.pf_conf.proofs.rulesets.push_rules.Given as goal

abbrev pub invariant-loop-rule : goal.invariant-loop-rule
invariant-loop-rule l = l.rules ≡ l.initial.rules ++ map (rule_at l.place) l.yielded
