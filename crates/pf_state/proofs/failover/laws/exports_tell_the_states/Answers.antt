use Rattle.pf_state.proofs.{ExportsTaken.tells_the_states, TakenOver.takes_over}
use Rattle.pf_state.proofs.failover.laws.exports_tell_the_states.Goals as goal

pub returns-clause-reported : goal.returns-clause-reported
returns-clause-reported c = tells_the_states

pub returns-clause-taken : goal.returns-clause-taken
returns-clause-taken c = takes_over
