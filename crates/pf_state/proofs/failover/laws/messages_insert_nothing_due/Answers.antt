use Rattle.pf_state.proofs.Asked.{inserts_nothing_due}
use Rattle.pf_state.proofs.failover.laws.messages_insert_nothing_due.Goals as goal

pub returns : goal.returns
returns c = inserts_nothing_due
