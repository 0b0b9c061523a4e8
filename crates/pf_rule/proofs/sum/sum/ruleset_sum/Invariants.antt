use Rattle.std.proofs.Common.{take}
use Rattle.std.specs.List.{flat_map}
use Rattle.md5.specs.Md5.{Holds}
use Rattle.pf_rule.specs.Sum.Forms.{whole_form}
use Rattle.pf_rule.proofs.sum.sum.ruleset_sum.Given as goal

-- the hasher holds the forms of the rules so far
abbrev pub invariant-loop-rule : goal.invariant-loop-rule
invariant-loop-rule l = Holds l.hasher (flat_map whole_form (take l.rule-index l.rules))
