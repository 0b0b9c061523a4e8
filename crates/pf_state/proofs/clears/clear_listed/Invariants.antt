use Rattle.pf_state.proofs.Listed.{Taking}
use Rattle.pf_state.proofs.clears.clear_listed.Given as goal

abbrev pub invariant-loop-id : goal.invariant-loop-id
invariant-loop-id l = Taking l.fn.states l.creator l.ids l.id-index l.left
