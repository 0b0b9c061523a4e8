use Rattle.std.proofs.Common.{◌≡◌, take}
use Rattle.pfd_conf.specs.Covering.{deciding_count}
use Rattle.pfd_conf.proofs.cover.deciding_count.Given as goal

abbrev pub invariant-loop-ruleset : goal.invariant-loop-ruleset
invariant-loop-ruleset l = l.count ≡ deciding_count (take l.ruleset-index l.rulesets)
