use Rattle.std.proofs.{Common.{ℕ, ◌+◌, append-nil, refl, drop, arith}, lemmas.Result.err_from_is_err_and, lemmas.List.{length-take, take_more_set}}
use Rattle.pf_session.proofs.{AnsweredLines.{piece-on, piece-all, kept-more, kept-full}, AnsweringSome.{byte-onto, line-onto, line-cut, line-left}, line_engine.some.answer_some_in.Goals.{then-byte-eq10+else-is_due+in_ok-answer_some+else-not-branch, else-byte-eq10+then-len-lt-LOOKED_AT, else-byte-eq10+else-len-lt-LOOKED_AT}}
use Rattle.pf_session.proofs.line_engine.some.answer_some_in.Goals as goal

pub loop-byte-init : goal.loop-byte-init
loop-byte-init g c = record {
  few = c.requires.few;
  used_is = refl;
  session = λ input start held s. rw (append-nil input) s;
}

-- where a pause is due
pub returns-then-is_due-clause-session : goal.returns-then-is_due-clause-session
returns-then-is_due-clause-session g c = λ input start held s. rw c.loop-byte.invariant.used_is (c.loop-byte.invariant.session input start held s)

pub returns-in_err-answer_some-clause-session : goal.returns-in_err-answer_some-clause-session
returns-in_err-answer_some-clause-session g c = λ input start held s.
    let (e, is, same) = err_from_is_err_and c.from_residual.result c.from_residual.ensures.1 in
    let k = c.loop-byte.byte-index in
    let (reported, takes, front) = c.in_err-answer_some.ensures in
    rw (is, ← piece-all input c.args.piece.now (k + 1), ← piece-on input c.args.piece.now k c.loop-byte-test.true, c.if-byte-eq10.true)
    (line-cut g.A.AnswerSome.Takes g.met.A.AnswerSome.takes_seen (drop (k + 1) c.args.piece.now) c.answer_some.new.self (g.W.Write.contents c.answer_some.new.writer) reported takes front
    (c.loop-byte.invariant.session input start held s))

-- a line of another kind
pub returns-then-not-branch-clause-session : goal.returns-then-not-branch-clause-session
returns-then-not-branch-clause-session g c = λ input start held s.
    let (same, keeps) = rw c.if-not-branch.true at c.in_ok-answer_some.ensures in
    rw c.loop-byte.invariant.used_is (line-left g.A.AnswerSome.Takes (g.W.Write.contents c.answer_some.new.writer) same keeps (c.loop-byte.invariant.session input start held s))

pub loop-byte-preserved : goal.loop-byte-preserved
loop-byte-preserved g c = elim c.if-byte-eq10.branch [
  | then-byte-eq10+else-is_due+in_ok-answer_some+else-not-branch w ↦ rw (w.len-is, w.writer-is, w.answerer-is) (record {
    few = omega arith;
    used_is = omega arith;
    session = λ input start held s.
        let (reported, takes, written) = rw w.if-not-branch.false at w.in_ok-answer_some.ensures in
        rw (← piece-on input c.args.piece.now c.loop-byte.byte-index c.loop-byte-test.true, w.if-byte-eq10.true)
        (line-onto g.A.AnswerSome.Takes g.met.A.AnswerSome.takes_seen w.answer_some.new.self (g.W.Write.contents w.answer_some.new.writer) reported takes written (c.loop-byte.invariant.session input start held s));
  })
  | else-byte-eq10+then-len-lt-LOOKED_AT w ↦ rw (w.len-is, w.line-is, w.writer-is, w.answerer-is) (record {
    few = omega arith;
    used_is = omega arith;
    session = λ input start held s. rw (← piece-on input c.args.piece.now c.loop-byte.byte-index c.loop-byte-test.true, take_more_set c.loop-byte.line c.loop-byte.len _ (omega arith))
        (byte-onto g.A.AnswerSome.Takes _ w.if-byte-eq10.false (kept-more _ _ (omega (arith, length-take {A = ℕ}))) (c.loop-byte.invariant.session input start held s));
  })
  | else-byte-eq10+else-len-lt-LOOKED_AT w ↦ rw (w.len-is, w.line-is, w.writer-is, w.answerer-is) (record {
    few = c.loop-byte.invariant.few;
    used_is = omega arith;
    session = λ input start held s. rw (← piece-on input c.args.piece.now c.loop-byte.byte-index c.loop-byte-test.true)
        (byte-onto g.A.AnswerSome.Takes _ w.if-byte-eq10.false (kept-full _ _ (omega (arith, length-take {A = ℕ}))) (c.loop-byte.invariant.session input start held s));
  })
]

pub returns-clause-session : goal.returns-clause-session
returns-clause-session g c = λ input start held s. rw c.loop-byte.invariant.used_is (c.loop-byte.invariant.session input start held s)
