use Rattle.pf_session.proofs.Pausing.{still-answered, unflushed, write-failed}
use Rattle.pf_session.proofs.line_engine.engine.catch_up.Goals as goal

pub returns-then-paused-clause-answered : goal.returns-then-paused-clause-answered
returns-then-paused-clause-answered g c = λ input start held unread s. still-answered g.A.AnswerLine.Takes (g.W.Write.contents c.flush.new.self) c.flush.ensures.bytes (c.in-Ok.ensures.answered input start held s)

pub returns-else-paused-clause-answered : goal.returns-else-paused-clause-answered
returns-else-paused-clause-answered g c = λ input start held unread s. still-answered g.A.AnswerLine.Takes (g.W.Write.contents c.flush.new.self) c.flush.ensures.bytes (c.in-Ok.ensures.answered input start held s)

pub returns-in-Err-flush-clause-answered : goal.returns-in-Err-flush-clause-answered
returns-in-Err-flush-clause-answered g c = λ input start held unread s. unflushed g.A.AnswerLine.Takes (g.W.Write.contents c.flush.new.self) unread c.flush.ensures.bytes (c.in-Ok.ensures.answered input start held s)

pub returns-in-Err-clause-answered : goal.returns-in-Err-clause-answered
returns-in-Err-clause-answered g c = λ input start held unread s. write-failed g.A.AnswerLine.Takes unread (c.in-Err.ensures.answered input start held s)
