use Rattle.pf_session.proofs.Cutting.{cuts-one-way}
use Rattle.pf_session.proofs.line_engine.laws.cuts_one_way.Goals as goal

pub returns : goal.returns
returns c = cuts-one-way
