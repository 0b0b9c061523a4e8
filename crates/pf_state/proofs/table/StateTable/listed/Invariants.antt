use Rattle.std.proofs.Common.{◌≡◌, ◌++◌}
use Rattle.pf_state.proofs.table.StateTable.listed.Given as goal

abbrev pub invariant-loop-state : goal.invariant-loop-state
invariant-loop-state l = l.listed.items ++ l.state-iterator ≡ l.self
