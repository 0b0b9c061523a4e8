use Rattle.std.proofs.Common.{◌≡◌, drop}
use Rattle.pf_sources.specs.Steps.{each}
use Rattle.pf_conf.specs.Rulesets.{with_braces}
use Rattle.pf_conf.proofs.found.Found.add_all_braces.Given as goal

abbrev pub invariant-loop-braces : goal.invariant-loop-braces
invariant-loop-braces l = each (with_braces l.tree) l.all (l.fn.paths, l.fn.self) ≡ each (with_braces l.tree) (drop l.braces-index l.all) (l.paths, l.self)
