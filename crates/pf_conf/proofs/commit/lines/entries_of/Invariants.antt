use Rattle.std.proofs.Common.{◌≡◌, ◌++◌}
use Rattle.pf_conf.proofs.commit.lines.entries_of.Given as goal

abbrev pub invariant-loop-entry : goal.invariant-loop-entry
invariant-loop-entry l = l.entries.items ++ l.entry-iterator ≡ l.table
