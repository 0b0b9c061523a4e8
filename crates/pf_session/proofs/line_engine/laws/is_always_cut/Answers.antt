use Rattle.pf_session.proofs.Cutting.{is-always-cut}
use Rattle.pf_session.proofs.line_engine.laws.is_always_cut.Goals as goal

pub returns : goal.returns
returns c = is-always-cut
