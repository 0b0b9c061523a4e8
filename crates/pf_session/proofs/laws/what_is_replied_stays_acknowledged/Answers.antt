use Rattle.pf_session.proofs.Acknowledging.{acknowledges-replied, acknowledges-no-less, finds-acknowledged}
use Rattle.pf_session.proofs.laws.what_is_replied_stays_acknowledged.Goals as goal

pub returns-clause-reported : goal.returns-clause-reported
returns-clause-reported g c = acknowledges-replied

pub returns-clause-stays : goal.returns-clause-stays
returns-clause-stays g c = λ gate session. acknowledges-no-less (g.G.Gate.passed gate session)

pub returns-clause-found : goal.returns-clause-found
returns-clause-found g c = finds-acknowledged
