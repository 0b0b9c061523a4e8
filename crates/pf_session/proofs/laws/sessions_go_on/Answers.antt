use Rattle.pf_session.specs.Server.{Askings.{AsksLine, AsksLines}, Sittings.{TakesLine, TakesLines}}
use Rattle.pf_session.proofs.Chains.{chain-then}
use Rattle.pf_session.proofs.GoingOn.{begins-alone, goes-on-elsewhere, goes-on-here, is-whole}
use Rattle.pf_session.proofs.laws.sessions_go_on.Goals as goal

pub returns-clause-alone : goal.returns-clause-alone
returns-clause-alone g c = λ gate session. begins-alone (TakesLines (g.G.Gate.passed gate session))

pub returns-clause-on : goal.returns-clause-on
returns-clause-on g c = λ gate session. goes-on-elsewhere (TakesLines (g.G.Gate.passed gate session))

pub returns-clause-whole : goal.returns-clause-whole
returns-clause-whole g c = λ gate session. is-whole (TakesLines (g.G.Gate.passed gate session))

pub returns-clause-asking_alone : goal.returns-clause-asking_alone
returns-clause-asking_alone g c = λ gate session. begins-alone (AsksLines (g.G.Gate.passed gate session))

pub returns-clause-asking_on : goal.returns-clause-asking_on
returns-clause-asking_on g c = λ gate session. goes-on-elsewhere (AsksLines (g.G.Gate.passed gate session))

pub returns-clause-asking_whole : goal.returns-clause-asking_whole
returns-clause-asking_whole g c = λ gate session. is-whole (AsksLines (g.G.Gate.passed gate session))

pub returns-clause-here : goal.returns-clause-here
returns-clause-here g c = λ gate session. goes-on-here (TakesLines (g.G.Gate.passed gate session)) (λ base setting. chain-then (TakesLine (g.G.Gate.passed gate session) base setting))

pub returns-clause-asking_here : goal.returns-clause-asking_here
returns-clause-asking_here g c = λ gate session. goes-on-here (AsksLines (g.G.Gate.passed gate session)) (λ base setting. chain-then (AsksLine (g.G.Gate.passed gate session) base setting))
