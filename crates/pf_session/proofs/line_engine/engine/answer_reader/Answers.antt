use Rattle.pf_session.proofs.Pausing.{ended-session, failed-session, from-nothing}
use Rattle.pf_session.proofs.line_engine.engine.answer_reader.Goals as goal

pub returns-in-Ok-Ended : goal.returns-in-Ok-Ended
returns-in-Ok-Ended g c =
    let takes = g.A.AnswerLine.Takes in
    ended-session takes (g.R.Read.remaining c.args.reader.now) (from-nothing takes c.in-Ok.intake c.in-Ok.ensures (rw c.in-Ok-Ended.field-0-is at c.in-Ok-Ended.ensures.part))

pub returns : goal.returns
returns g c =
    let takes = g.A.AnswerLine.Takes in
    failed-session takes c.in-Err.fault (g.R.Read.remaining c.args.reader.now) (from-nothing takes c.in-Ok.intake c.in-Ok.ensures c.in-Err.ensures.part)
