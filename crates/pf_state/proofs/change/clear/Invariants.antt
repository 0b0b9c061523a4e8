use Rattle.pf_state.proofs.Indexed.{Clearing}
use Rattle.pf_state.proofs.change.clear.Given as goal

abbrev pub invariant-loop-state : goal.invariant-loop-state
invariant-loop-state l = Clearing l.fn.states l.creator l.state-iterator l.left
