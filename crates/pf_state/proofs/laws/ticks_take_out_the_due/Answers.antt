use Rattle.pf_state.proofs.Ticks.{ticks_take_out_the_due, steps_leave_none_due}
use Rattle.pf_state.proofs.laws.ticks_take_out_the_due.Goals as goal

pub returns-clause-due : goal.returns-clause-due
returns-clause-due c = ticks_take_out_the_due

pub returns-clause-steps : goal.returns-clause-steps
returns-clause-steps c = steps_leave_none_due
