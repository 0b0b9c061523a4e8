use Rattle.pf_session.proofs.server.judging.JudgingAnswerSome.answer_some.Goals as goal

pub returns-in-Ok : goal.returns-in-Ok
returns-in-Ok g c =
    let (text, judged, written) = c.in-Ok.ensures.judged in
    (text, record { same = c.judge.ensures.same; gate = c.judge.ensures.gate; next = c.judge.ensures.next; packet = _; asks = c.in-Some.ensures; judged = judged }, written)

pub returns-in-Err : goal.returns-in-Err
returns-in-Err g c =
    let (text, judged, front) = c.in-Err.ensures.judged in
    (text, record { same = c.judge.ensures.same; gate = c.judge.ensures.gate; next = c.judge.ensures.next; packet = _; asks = c.in-Some.ensures; judged = judged }, front)
