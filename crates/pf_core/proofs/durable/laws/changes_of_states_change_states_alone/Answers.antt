use Rattle.pf_core.proofs.Edited.{steps_exactly}
use Rattle.pf_core.proofs.durable.laws.changes_of_states_change_states_alone.Goals as goal

pub returns : goal.returns
returns c = steps_exactly
