use Rattle.std.proofs.Common.{◌≡◌, ◌++◌}
use Rattle.pf_table.proofs.table.listed.Given as goal

abbrev pub invariant-loop-entry : goal.invariant-loop-entry
invariant-loop-entry l = l.list.items ++ l.entry-iterator ≡ l.map
