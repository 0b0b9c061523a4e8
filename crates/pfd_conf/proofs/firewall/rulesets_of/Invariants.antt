use Rattle.std.proofs.Common.{◌≡◌, map, take}
use Rattle.pfd_conf.specs.Firewalls.{placed_of}
use Rattle.pfd_conf.proofs.firewall.rulesets_of.Given as goal

abbrev pub invariant-loop-ruleset : goal.invariant-loop-ruleset
invariant-loop-ruleset l = l.placed.items ≡ map placed_of (take l.ruleset-index l.rulesets)
