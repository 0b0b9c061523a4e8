use Rattle.std.proofs.Common.{◌≡◌, ◌++◌, map, drop}
use Rattle.pf_conf.specs.Tables.{entry_text}
use Rattle.pf_load.specs.Changes.{absent_by}
use Rattle.pf_load.proofs.changes.absent_in.Given as goal

abbrev pub invariant-loop-at : goal.invariant-loop-at
invariant-loop-at l = l.absent.items ++ map entry_text (absent_by (drop l.at l.answers.items) (drop l.at l.entries)) ≡ map entry_text (absent_by l.answers.items l.entries)
