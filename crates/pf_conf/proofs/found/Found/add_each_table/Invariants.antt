use Rattle.std.proofs.Common.{◌≡◌, drop}
use Rattle.pf_sources.specs.Steps.{each}
use Rattle.pf_conf.specs.Filling.{with_sources}
use Rattle.pf_conf.proofs.found.Found.add_each_table.Given as goal

abbrev pub invariant-loop-line : goal.invariant-loop-line
invariant-loop-line l = each (with_sources l.files l.path) l.tables l.fn.self ≡ each (with_sources l.files l.path) (drop l.line-index l.tables) l.self
