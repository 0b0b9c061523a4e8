use Rattle.pf_session.proofs.Learning.{learns-applied, learns-no-less}
use Rattle.pf_session.proofs.laws.sessions_learn.Goals as goal

pub returns-clause-kept : goal.returns-clause-kept
returns-clause-kept g c = λ gate session. learns-no-less (g.G.Gate.passed gate session)

pub returns-clause-applied : goal.returns-clause-applied
returns-clause-applied g c = learns-applied
