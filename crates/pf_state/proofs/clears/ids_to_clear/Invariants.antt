use Rattle.pf_state.proofs.Listed.{Listing}
use Rattle.pf_state.proofs.clears.ids_to_clear.Given as goal

abbrev pub invariant-loop-state : goal.invariant-loop-state
invariant-loop-state l = Listing l.states l.state-iterator l.ids
