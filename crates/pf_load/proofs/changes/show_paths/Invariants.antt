use Rattle.std.proofs.Common.{take}
use Rattle.std.specs.{List.flat_map, Io.KnownBytes.Appends}
use Rattle.pf_load.specs.Changes.{tables_question}
use Rattle.pf_load.proofs.changes.show_paths.Given as goal

abbrev pub invariant-loop-path : goal.invariant-loop-path
invariant-loop-path g l = Appends (g.W.Write.contents l.initial.server) (g.W.Write.contents l.server) (flat_map tables_question (take l.path-index l.paths))
