use Rattle.pf_session.proofs.Pausing.{still-answered, unflushed, write-failed}
use Rattle.pf_session.proofs.line_engine.engine.some.catch_up_some.Goals as goal

pub returns-then-stops-clause-answered : goal.returns-then-stops-clause-answered
returns-then-stops-clause-answered g c = λ input start held unread s. still-answered g.A.AnswerSome.Takes (g.W.Write.contents c.flush.new.self) c.flush.ensures.bytes (c.in-Ok.ensures.answered input start held s)

pub returns-else-stops-clause-answered : goal.returns-else-stops-clause-answered
returns-else-stops-clause-answered g c = λ input start held unread s. still-answered g.A.AnswerSome.Takes (g.W.Write.contents c.flush.new.self) c.flush.ensures.bytes (c.in-Ok.ensures.answered input start held s)

pub returns-in-Err-flush-clause-answered : goal.returns-in-Err-flush-clause-answered
returns-in-Err-flush-clause-answered g c = λ input start held unread s. unflushed g.A.AnswerSome.Takes (g.W.Write.contents c.flush.new.self) unread c.flush.ensures.bytes (c.in-Ok.ensures.answered input start held s)

pub returns-in-Err-clause-answered : goal.returns-in-Err-clause-answered
returns-in-Err-clause-answered g c = λ input start held unread s. write-failed g.A.AnswerSome.Takes unread (c.in-Err.ensures.answered input start held s)
