use Rattle.pf_state.proofs.ReadBack.{read_back}
use Rattle.pf_state.proofs.failover.laws.exports_are_read_back.Goals as goal

pub returns : goal.returns
returns c = read_back c.written_message_is_read.ensures
