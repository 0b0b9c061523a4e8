use Rattle.pf_session.specs.{LineEngine.Chains.Chain, Server.{Sittings.TakesLines, SessionRuns.{IsSame, TakesInSession, sitting}}}
use Rattle.pf_session.proofs.{Moving.session-as, Sitting.{sat, same-still}}
use Rattle.pf_session.proofs.server.session.run_session.Goals as goal

pub returns-clause-same : goal.returns-clause-same
returns-clause-same g c =
    let start = c.args.session.now in
    let passed = g.G.Gate.passed in
    let base = g.J.Naming.base in
    let setting = g.J.Chapter.setting in
    (session-as sitting (IsSame start) (Chain (TakesInSession passed base setting)) (TakesLines (passed start.gate.now start.number) base setting) (sat passed base setting start)
    (same-still start) c.answer_reader.ensures).1

pub returns-clause-session : goal.returns-clause-session
returns-clause-session g c =
    let start = c.args.session.now in
    let passed = g.G.Gate.passed in
    let base = g.J.Naming.base in
    let setting = g.J.Chapter.setting in
    (session-as sitting (IsSame start) (Chain (TakesInSession passed base setting)) (TakesLines (passed start.gate.now start.number) base setting) (sat passed base setting start)
    (same-still start) c.answer_reader.ensures).0
