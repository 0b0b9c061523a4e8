use Rattle.pf_session.specs.{LineEngine.Chains.Chain, Server.{Askings.AsksLines, AskingRuns.{IsSameAsker, TakesInAsking, place}}}
use Rattle.pf_session.proofs.{Moving.session-as, Asking.{asked-all, same-still}}
use Rattle.pf_session.proofs.server.asking.run_asker.Goals as goal

pub returns-clause-same : goal.returns-clause-same
returns-clause-same g c =
    let start = c.args.asker.now in
    let passed = g.G.Gate.passed in
    let base = g.J.Naming.base in
    let setting = g.J.Chapter.setting in
    (session-as place (IsSameAsker start) (Chain (TakesInAsking passed base setting)) (AsksLines (passed start.gate.now start.number) base setting) (asked-all passed base setting start)
    (same-still start) c.answer_reader.ensures).1

pub returns-clause-session : goal.returns-clause-session
returns-clause-session g c =
    let start = c.args.asker.now in
    let passed = g.G.Gate.passed in
    let base = g.J.Naming.base in
    let setting = g.J.Chapter.setting in
    (session-as place (IsSameAsker start) (Chain (TakesInAsking passed base setting)) (AsksLines (passed start.gate.now start.number) base setting) (asked-all passed base setting start)
    (same-still start) c.answer_reader.ensures).0
