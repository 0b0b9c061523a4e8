use Rattle.std.proofs.Common.{take}
use Rattle.std.specs.{List.flat_map, Io.KnownBytes.Appends}
use Rattle.pf_load.specs.Changes.{rules_question}
use Rattle.pf_load.proofs.changes.show_rulesets.Given as goal

abbrev pub invariant-loop-ruleset : goal.invariant-loop-ruleset
invariant-loop-ruleset g l = Appends (g.W.Write.contents l.initial.server) (g.W.Write.contents l.server) (flat_map rules_question (take l.ruleset-index l.rulesets))
