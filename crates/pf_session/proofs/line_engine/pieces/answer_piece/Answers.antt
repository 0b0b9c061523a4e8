use Rattle.std.proofs.{Common.{◌≡◌, ℕ, ◌+◌, append-nil, refl, take, drop, arith}, lemmas.Result.err_from_is_err_and, lemmas.List.{length-take, take_all, take_more_set}}
use Rattle.pf_session.proofs.{AnsweredLines.{failed-more, piece-on, piece-all, kept-more, kept-full, byte-taken, line-taken, line-failed, wait-begun, wait-ended, wait-failed}, line_engine.pieces.answer_piece.Goals.{then-byte-eq10+in_ok-take_line+else-is_due, else-byte-eq10+then-len-lt-LOOKED_AT, else-byte-eq10+else-len-lt-LOOKED_AT}}
use Rattle.pf_session.proofs.line_engine.pieces.answer_piece.Goals as goal

pub loop-byte-init : goal.loop-byte-init
loop-byte-init g c = record {
  few = c.requires.few;
  used_is = refl;
  session = λ input start held s. rw (append-nil input) (wait-begun g.A.AnswerLine.Takes g.A.AnswerLine.Waits c.none_waiting-waiting.result c.none_waiting-waiting.ensures s);
}

pub returns-in_err-take_line-clause-session : goal.returns-in_err-take_line-clause-session
returns-in_err-take_line-clause-session g c = λ input start held s.
    let (e, is, same) = err_from_is_err_and c.from_residual.result c.from_residual.ensures.1 in
    let k = c.loop-byte.byte-index in
    rw (is, ← piece-all input c.args.piece.now (k + 1), ← piece-on input c.args.piece.now k c.loop-byte-test.true, c.if-byte-eq10.true)
    (line-failed g.A.AnswerLine.Takes g.A.AnswerLine.Waits (drop (k + 1) c.args.piece.now) c.take_line.new.self (g.W.Write.contents c.take_line.new.writer) c.in_err-take_line.ensures
    (c.loop-byte.invariant.session input start held s))

pub returns-in_err-answer_waiting-clause-session : goal.returns-in_err-answer_waiting-clause-session
returns-in_err-answer_waiting-clause-session g c = λ input start held s.
    let (e, is, same) = err_from_is_err_and c.from_residual-in_err-answer_waiting.result c.from_residual-in_err-answer_waiting.ensures.1 in
    let k = c.loop-byte.byte-index in
    rw (is, ← piece-all input c.args.piece.now (k + 1), ← piece-on input c.args.piece.now k c.loop-byte-test.true, c.if-byte-eq10.true)
    (failed-more g.A.AnswerLine.Takes (drop (k + 1) c.args.piece.now)
    (wait-failed g.A.AnswerLine.Takes g.A.AnswerLine.Waits c.answer_waiting.new.self (g.W.Write.contents c.answer_waiting.new.writer) c.in_err-answer_waiting.ensures.reported
    (line-taken g.A.AnswerLine.Takes g.A.AnswerLine.Waits c.take_line.new.self c.take_line.new.waiting (g.W.Write.contents c.take_line.new.writer) c.in_ok-take_line.ensures (c.loop-byte.invariant.session input start held s))))

pub returns-in_err-answer_waiting-2-clause-session : goal.returns-in_err-answer_waiting-2-clause-session
returns-in_err-answer_waiting-2-clause-session g c = λ input start held s.
    let (e, is, same) = err_from_is_err_and c.from_residual-in_err-answer_waiting-2.result c.from_residual-in_err-answer_waiting-2.ensures.1 in
    let whole : take c.loop-byte.byte-index c.args.piece.now ≡ c.args.piece.now = take_all c.loop-byte.byte-index c.args.piece.now (omega (arith, c.loop-byte-test.false)) in
    rw (is, ← whole) (wait-failed g.A.AnswerLine.Takes g.A.AnswerLine.Waits c.answer_waiting-2.new.self (g.W.Write.contents c.answer_waiting-2.new.writer) c.in_err-answer_waiting-2.ensures.reported (c.loop-byte.invariant.session input start held s))

pub returns-clause-session : goal.returns-clause-session
returns-clause-session g c = λ input start held s.
    rw c.loop-byte.invariant.used_is
    (wait-ended g.A.AnswerLine.Takes g.A.AnswerLine.Waits c.answer_waiting-2.new.self (g.W.Write.contents c.answer_waiting-2.new.writer) c.in_ok-answer_waiting-2.ensures.reported (c.loop-byte.invariant.session input start held s))

-- behind a line at which a pause is due
pub returns-then-is_due-clause-session : goal.returns-then-is_due-clause-session
returns-then-is_due-clause-session g c = λ input start held s.
    rw (c.loop-byte.invariant.used_is, ← piece-on input c.args.piece.now c.loop-byte.byte-index c.loop-byte-test.true, c.if-byte-eq10.true)
    (wait-ended g.A.AnswerLine.Takes g.A.AnswerLine.Waits c.answer_waiting.new.self (g.W.Write.contents c.answer_waiting.new.writer) c.in_ok-answer_waiting.ensures.reported
    (line-taken g.A.AnswerLine.Takes g.A.AnswerLine.Waits c.take_line.new.self c.take_line.new.waiting (g.W.Write.contents c.take_line.new.writer) c.in_ok-take_line.ensures (c.loop-byte.invariant.session input start held s)))

pub loop-byte-preserved : goal.loop-byte-preserved
loop-byte-preserved g c = elim c.if-byte-eq10.branch [
  | then-byte-eq10+in_ok-take_line+else-is_due w ↦ rw (w.len-is, w.waiting-is, w.writer-is, w.answerer-is) (record {
    few = omega arith;
    used_is = omega arith;
    session = λ input start held s. rw (← piece-on input c.args.piece.now c.loop-byte.byte-index c.loop-byte-test.true, w.if-byte-eq10.true)
        (line-taken g.A.AnswerLine.Takes g.A.AnswerLine.Waits w.take_line.new.self w.take_line.new.waiting (g.W.Write.contents w.take_line.new.writer) w.in_ok-take_line.ensures (c.loop-byte.invariant.session input start held s));
  })
  | else-byte-eq10+then-len-lt-LOOKED_AT w ↦ rw (w.len-is, w.line-is, w.waiting-is, w.writer-is, w.answerer-is) (record {
    few = omega arith;
    used_is = omega arith;
    session = λ input start held s. rw (← piece-on input c.args.piece.now c.loop-byte.byte-index c.loop-byte-test.true, take_more_set c.loop-byte.line c.loop-byte.len _ (omega arith))
        (byte-taken g.A.AnswerLine.Takes g.A.AnswerLine.Waits _ w.if-byte-eq10.false (kept-more _ _ (omega (arith, length-take {A = ℕ}))) (c.loop-byte.invariant.session input start held s));
  })
  | else-byte-eq10+else-len-lt-LOOKED_AT w ↦ rw (w.len-is, w.line-is, w.waiting-is, w.writer-is, w.answerer-is) (record {
    few = c.loop-byte.invariant.few;
    used_is = omega arith;
    session = λ input start held s. rw (← piece-on input c.args.piece.now c.loop-byte.byte-index c.loop-byte-test.true)
        (byte-taken g.A.AnswerLine.Takes g.A.AnswerLine.Waits _ w.if-byte-eq10.false (kept-full _ _ (omega (arith, length-take {A = ℕ}))) (c.loop-byte.invariant.session input start held s));
  })
]
