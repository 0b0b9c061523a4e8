use Rattle.pf_session.proofs.GoingOn.{streams-begin-alone, streams-go-on-elsewhere}
use Rattle.pf_session.proofs.laws.streams_go_on.Goals as goal

pub returns-clause-alone : goal.returns-clause-alone
returns-clause-alone c = streams-begin-alone

pub returns-clause-on : goal.returns-clause-on
returns-clause-on c = streams-go-on-elsewhere
