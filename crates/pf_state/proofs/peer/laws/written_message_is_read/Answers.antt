use Rattle.pf_state.proofs.RoundTrip.{message_again}
use Rattle.pf_state.proofs.peer.laws.written_message_is_read.Goals as goal

pub returns : goal.returns
returns c = message_again
