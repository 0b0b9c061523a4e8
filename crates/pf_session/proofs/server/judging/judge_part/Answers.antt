use Rattle.std.proofs.Common.{None}
use Rattle.pf_session.specs.{LineEngine.Chains.Chain, Server.{Askings.AsksLines, Judgings.{IsSameJudging, JudgesInSession, seat}, Sittings.TakesLines}}
use Rattle.pf_session.proofs.{Moving.part-as, Judging.{judged-asks, judged-takes, same-still}}
use Rattle.pf_session.proofs.server.judging.judge_part.Goals as goal

pub returns-clause-same : goal.returns-clause-same
returns-clause-same g c =
    let start = c.args.judging.now in
    let passed = g.G.Gate.passed in
    let base = g.J.Naming.base in
    let setting = g.J.Chapter.setting in
    (part-as (seat None) (IsSameJudging start) (Chain (JudgesInSession passed base)) (TakesLines (passed start.gate.now start.number) base setting) (judged-takes passed base setting None start)
    (same-still start) (c.go_on_some.ensures.part c.args.intake.now.kept c.go_on_some.ensures.begun)).1

pub returns-clause-part : goal.returns-clause-part
returns-clause-part g c = λ last begun is.
    let start = c.args.judging.now in
    let passed = g.G.Gate.passed in
    let base = g.J.Naming.base in
    let setting = g.J.Chapter.setting in
    (part-as (seat last) (IsSameJudging start) (Chain (JudgesInSession passed base)) (TakesLines (passed start.gate.now start.number) base setting) (judged-takes passed base setting last start)
    (same-still start) (c.go_on_some.ensures.part begun is)).0

pub returns-clause-asking_part : goal.returns-clause-asking_part
returns-clause-asking_part g c = λ last begun is.
    let start = c.args.judging.now in
    let passed = g.G.Gate.passed in
    let base = g.J.Naming.base in
    let setting = g.J.Chapter.setting in
    (part-as (seat last) (IsSameJudging start) (Chain (JudgesInSession passed base)) (AsksLines (passed start.gate.now start.number) base setting) (judged-asks passed base setting last start)
    (same-still start) (c.go_on_some.ensures.part begun is)).0
