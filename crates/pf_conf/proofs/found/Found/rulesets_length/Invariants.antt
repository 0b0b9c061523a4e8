use Rattle.std.proofs.Common.{◌≡◌, ◌-◌, ◌^◌, min, sum_by, codes, take}
use Rattle.pf_conf.specs.{declared.found.Ruleset.Ruleset, Resolving.part_length}
use Rattle.pf_conf.proofs.found.Found.rulesets_length.Given as goal

abbrev pub invariant-loop-ruleset : goal.invariant-loop-ruleset
invariant-loop-ruleset l = l.length ≡ min (sum_by (λ (r : Ruleset). part_length (codes " filter ") r.path) (take l.ruleset-index l.ruleset-items)) (2 ^ 64 - 1)
