use Rattle.std.proofs.Common.{◌≡◌, map, take}
use Rattle.pf_conf.specs.Commit.Naming.{filter_of}
use Rattle.pf_conf.proofs.commit.naming.filters.Given as goal

abbrev pub invariant-loop-ruleset : goal.invariant-loop-ruleset
invariant-loop-ruleset l = l.names.items ≡ map filter_of (take l.ruleset-index l.rulesets)
