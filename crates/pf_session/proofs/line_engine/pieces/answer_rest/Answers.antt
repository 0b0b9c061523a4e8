use Rattle.std.proofs.{Common.{[], sym, ◌∙◌, append-nil}, lemmas.Result.err_from_is_err_and}
use Rattle.pf_session.proofs.{AnsweredLines.{last-is, line-answered, line-cut_off, flushed}, line_engine.pieces.answer_rest.Goals.{then-not-is_empty+in_ok-answer_line, else-not-is_empty}}
use Rattle.pf_session.proofs.line_engine.pieces.answer_rest.Goals as goal

pub returns-in_err-answer_line : goal.returns-in_err-answer_line
returns-in_err-answer_line g c = λ lines line start held is all.
    let (e, failed, same) = err_from_is_err_and c.from_residual.result c.from_residual.ensures.1 in
    let (reply, takes, front) = c.in_err-answer_line.ensures in
    rw (failed, last-is 4096 c.args.rest.now line is, sym c.is_empty.ensures ∙ c.if-not-is_empty.true)
    (simp append-nil at (line-cut_off g.A.AnswerLine.Takes g.met.A.AnswerLine.takes_seen line [] reply c.answer_line.new.self (g.W.Write.contents c.answer_line.new.writer) is all takes front))

pub returns : goal.returns
returns g c = λ lines line start held is all. elim c.if-not-is_empty.branch [
  | then-not-is_empty+in_ok-answer_line w ↦
      let (reply, takes, written) = w.in_ok-answer_line.ensures in
      rw (w.answerer-is, last-is 4096 c.args.rest.now line is, sym c.is_empty.ensures ∙ w.if-not-is_empty.true)
      (flushed g.A.AnswerLine.Takes c.flush.result (g.W.Write.contents c.flush.new.self)
      (line-answered g.A.AnswerLine.Takes g.met.A.AnswerLine.takes_seen line reply w.answer_line.new.self (g.W.Write.contents w.answer_line.new.writer) is all takes written) (rw w.writer-is at c.flush.ensures.bytes))
  | else-not-is_empty w ↦ rw (w.answerer-is, last-is 4096 c.args.rest.now line is, sym c.is_empty.ensures ∙ w.if-not-is_empty.false, append-nil lines)
      (flushed g.A.AnswerLine.Takes c.flush.result (g.W.Write.contents c.flush.new.self) all (rw w.writer-is at c.flush.ensures.bytes))
]
