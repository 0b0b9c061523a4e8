use Rattle.std.proofs.Common.{◌≡◌, ◌++◌, drop}
use Rattle.pfd_conf.specs.Covering.{uncovered_of, uncovered_from}
use Rattle.pfd_conf.proofs.firewall.Origins.uncovered.Given as goal

abbrev pub invariant-loop-within : goal.invariant-loop-within
invariant-loop-within l =
    let rulesets = l.self.rulesets in
    uncovered_of l.tried rulesets ≡ l.uncovered ++ uncovered_from l.tried l.within (drop l.within rulesets)
