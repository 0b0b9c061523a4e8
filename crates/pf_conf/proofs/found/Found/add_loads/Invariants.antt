use Rattle.std.proofs.Common.{◌≡◌, take}
use Rattle.pf_conf.specs.Resolving.{with_loads}
use Rattle.pf_conf.proofs.found.Found.add_loads.Given as goal

abbrev pub invariant-loop-load : goal.invariant-loop-load
invariant-loop-load l = l.self ≡ with_loads l.files l.macros l.path (take l.load-index l.loads) l.initial.self
