use Rattle.pf_session.specs.{LineEngine.Chains.Chain, Server.{Sittings.TakesLines, SessionRuns.{IsSame, TakesInSession, sitting}}}
use Rattle.pf_session.proofs.{Moving.part-as, Sitting.{sat, same-still}}
use Rattle.pf_session.proofs.server.session.run_part.Goals as goal

pub returns-clause-same : goal.returns-clause-same
returns-clause-same g c =
    let start = c.args.session.now in
    let passed = g.G.Gate.passed in
    let base = g.J.Naming.base in
    let setting = g.J.Chapter.setting in
    (part-as sitting (IsSame start) (Chain (TakesInSession passed base setting)) (TakesLines (passed start.gate.now start.number) base setting) (sat passed base setting start)
    (same-still start) (c.go_on.ensures.part c.args.intake.now.kept c.go_on.ensures.begun)).1

pub returns-clause-part : goal.returns-clause-part
returns-clause-part g c = λ begun is.
    let start = c.args.session.now in
    let passed = g.G.Gate.passed in
    let base = g.J.Naming.base in
    let setting = g.J.Chapter.setting in
    (part-as sitting (IsSame start) (Chain (TakesInSession passed base setting)) (TakesLines (passed start.gate.now start.number) base setting) (sat passed base setting start)
    (same-still start) (c.go_on.ensures.part begun is)).0
