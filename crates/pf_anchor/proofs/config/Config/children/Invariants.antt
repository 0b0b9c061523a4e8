use Rattle.std.proofs.Common.{◌≡◌, ◌++◌}
use Rattle.pf_anchor.specs.Rulesets.{children}
use Rattle.pf_anchor.proofs.config.Config.children.Given as goal

-- what was found comes before what the others give
abbrev pub invariant-loop-placed : goal.invariant-loop-placed
invariant-loop-placed l = l.found.items ++ children l.placed-iterator l.path ≡ children l.self.rulesets l.path
