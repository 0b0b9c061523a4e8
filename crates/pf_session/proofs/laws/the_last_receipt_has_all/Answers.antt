use Rattle.pf_session.proofs.Following.{sits-within, takes-within}
use Rattle.pf_session.proofs.laws.the_last_receipt_has_all.Goals as goal

pub returns-clause-sessions : goal.returns-clause-sessions
returns-clause-sessions g c = λ gate session. sits-within (g.G.Gate.passed gate session)

pub returns-clause-peers : goal.returns-clause-peers
returns-clause-peers g c = takes-within
