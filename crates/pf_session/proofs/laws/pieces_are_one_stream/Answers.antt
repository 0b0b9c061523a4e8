use Rattle.pf_session.proofs.Joining.{are_one_stream}
use Rattle.pf_session.proofs.laws.pieces_are_one_stream.Goals as goal

pub returns : goal.returns
returns c = are_one_stream
