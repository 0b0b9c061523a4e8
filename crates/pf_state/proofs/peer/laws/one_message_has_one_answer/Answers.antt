use Rattle.pf_state.proofs.{OneMessage.{one_answer, message_alone}, SomeReading.some_answer}
use Rattle.pf_state.proofs.peer.laws.one_message_has_one_answer.Goals as goal

pub returns-clause-some : goal.returns-clause-some
returns-clause-some c = some_answer

pub returns-clause-one : goal.returns-clause-one
returns-clause-one c = one_answer

pub returns-clause-message : goal.returns-clause-message
returns-clause-message c = message_alone
