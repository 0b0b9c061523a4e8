use Rattle.pf_state.proofs.Asked.{one_step_for_each}
use Rattle.pf_state.proofs.failover.laws.each_record_is_a_step.Goals as goal

pub returns : goal.returns
returns c = one_step_for_each
