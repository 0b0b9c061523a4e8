use Rattle.pf_state.proofs.{Leaves.last_step_stands, Tables.{stays_states, refused_by_any_step}}
use Rattle.pf_state.proofs.laws.batches_leave_states.Goals as goal

pub returns-clause-last : goal.returns-clause-last
returns-clause-last c = last_step_stands

pub returns-clause-stays : goal.returns-clause-stays
returns-clause-stays c = stays_states

pub returns-clause-refused : goal.returns-clause-refused
returns-clause-refused c = refused_by_any_step
