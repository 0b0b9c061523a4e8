use Rattle.std.proofs.Common.{◌≡◌, true, map, take}
use Rattle.pf_state.specs.States.{are_whole}
use Rattle.pf_state.proofs.layouts.lists.states_of.Given as goal

abbrev pub invariant-loop-row : goal.invariant-loop-row
invariant-loop-row l = (l.states.items ≡ map (λ row. row.state) (take l.row-index l.rows)) × (are_whole l.states.items ≡ true)
