use Rattle.std.proofs.{Common.{◌≡◌, ◌++◌, [], Err, Ok}, lemmas.Result.err_from_is_err_and}
use Rattle.pf_session.specs.declared.line_engine.left_off.LeftOff.TheVariants.{Ended, Paused}
use Rattle.pf_session.specs.declared.line_engine.fault.EngineFault.TheVariants as fault
use Rattle.pf_session.proofs.{Pausing.{part-answered, part-begun, part-left, part-more, part-waited, read-failed}, line_engine.engine.go_on.Goals.{in-Ok+else-n-eq0, in-Err+else-ne}}
use Rattle.pf_session.proofs.line_engine.engine.go_on.Goals as goal

pub loop-init : goal.loop-init
loop-init g c = λ begun is. part-begun g.A.AnswerLine.Takes c.args.intake.now begun (g.R.Read.remaining c.args.reader.now) c.args.answerer.now (g.W.Write.contents c.args.writer.now) is

pub returns-in_err-catch_up-clause-part : goal.returns-in_err-catch_up-clause-part
returns-in_err-catch_up-clause-part g c = λ begun is.
    let p = c.loop.invariant begun is in
    let e = err_from_is_err_and c.from_residual.result c.from_residual.ensures.1 in
    rw (e.1, e.2)
    (part-left g.A.AnswerLine.Takes _ p (c.in_err-catch_up.ensures.answered ((begun ++ c.args.intake.now.ahead) ++ p.input) c.args.answerer.now (g.W.Write.contents c.args.writer.now) (g.R.Read.remaining c.loop.reader) p.so_far))

pub returns-then-branch-clause-part : goal.returns-then-branch-clause-part
returns-then-branch-clause-part g c = λ begun is.
    let p = c.loop.invariant begun is in
    part-left g.A.AnswerLine.Takes (Ok Paused) p (c.in_ok-catch_up.ensures.answered ((begun ++ c.args.intake.now.ahead) ++ p.input) c.args.answerer.now (g.W.Write.contents c.args.writer.now) (g.R.Read.remaining c.loop.reader) p.so_far)

pub returns-then-n-eq0-clause-paused : goal.returns-then-n-eq0-clause-paused
returns-then-n-eq0-clause-paused g c = λ paused. let other : Paused ≡ Ended = rw paused at c.end_lines.ensures.ended in absurd (cc (other))

pub returns-then-n-eq0-clause-part : goal.returns-then-n-eq0-clause-part
returns-then-n-eq0-clause-part g c = λ begun is.
    let takes = g.A.AnswerLine.Takes in
    let p = c.loop.invariant begun is in
    let s = c.in_ok-catch_up.ensures.answered ((begun ++ c.args.intake.now.ahead) ++ p.input) c.args.answerer.now (g.W.Write.contents c.args.writer.now) (g.R.Read.remaining c.loop.reader) p.so_far in
    let none : c.catch_up.new.intake.ahead ≡ [] = rw c.if-branch.false at c.in_ok-catch_up.ensures.paused in
    let q = part-more takes (g.R.Read.remaining c.read.new.reader) none c.in-Ok.ensures.kept c.in-Ok.ensures.read.1 (part-answered takes p s) in
    part-left takes c.end_lines.result q
    (c.end_lines.ensures.leaves ((begun ++ c.args.intake.now.ahead) ++ q.input) c.args.answerer.now (g.W.Write.contents c.args.writer.now) (g.R.Read.remaining c.read.new.reader) (c.in-Ok.ensures.end c.if-n-eq0.true) q.so_far)

pub returns-then-ne-clause-part : goal.returns-then-ne-clause-part
returns-then-ne-clause-part g c = λ begun is.
    let takes = g.A.AnswerLine.Takes in
    let p = c.loop.invariant begun is in
    let s = c.in_ok-catch_up.ensures.answered ((begun ++ c.args.intake.now.ahead) ++ p.input) c.args.answerer.now (g.W.Write.contents c.args.writer.now) (g.R.Read.remaining c.loop.reader) p.so_far in
    let none : c.catch_up.new.intake.ahead ≡ [] = rw c.if-branch.false at c.in_ok-catch_up.ensures.paused in
    let q = part-waited takes (g.R.Read.remaining c.read.new.reader) none c.in-Err.ensures.kept c.in-Err.ensures.failed.0 c.in-Err.ensures.failed.1 (part-answered takes p s) in
    part-left takes (Err fault.Read) q (read-failed takes (g.R.Read.remaining c.read.new.reader) c.in-Err.ensures.failed.0 q.so_far)

pub loop-preserved : goal.loop-preserved
loop-preserved g c = λ begun is.
    let takes = g.A.AnswerLine.Takes in
    let p = c.loop.invariant begun is in
    let s = c.in_ok-catch_up.ensures.answered ((begun ++ c.args.intake.now.ahead) ++ p.input) c.args.answerer.now (g.W.Write.contents c.args.writer.now) (g.R.Read.remaining c.loop.reader) p.so_far in
    let none : c.catch_up.new.intake.ahead ≡ [] = rw c.if-branch.false at c.in_ok-catch_up.ensures.paused in
    elim c.match-read.branch [
      | in-Ok+else-n-eq0 w ↦ part-more takes (g.R.Read.remaining c.read.new.reader) none w.in-Ok.ensures.kept w.in-Ok.ensures.read.1 (part-answered takes p s)
      | in-Err+else-ne w ↦ part-waited takes (g.R.Read.remaining c.read.new.reader) none w.in-Err.ensures.kept w.in-Err.ensures.failed.0 w.in-Err.ensures.failed.1 (part-answered takes p s)
    ]

pub returns-in_err-catch_up-2-clause-part : goal.returns-in_err-catch_up-2-clause-part
returns-in_err-catch_up-2-clause-part g c = λ begun is.
    let p = c.loop.invariant begun is in
    let e = err_from_is_err_and c.from_residual-in_err-catch_up-2.result c.from_residual-in_err-catch_up-2.ensures.1 in
    rw (e.1, e.2)
    (part-left g.A.AnswerLine.Takes _ p (c.in_err-catch_up-2.ensures.answered ((begun ++ c.args.intake.now.ahead) ++ p.input) c.args.answerer.now (g.W.Write.contents c.args.writer.now) (g.R.Read.remaining c.loop.reader) p.so_far))

pub returns-then-branch-2-clause-part : goal.returns-then-branch-2-clause-part
returns-then-branch-2-clause-part g c = λ begun is.
    let p = c.loop.invariant begun is in
    part-left g.A.AnswerLine.Takes (Ok Paused) p (c.in_ok-catch_up-2.ensures.answered ((begun ++ c.args.intake.now.ahead) ++ p.input) c.args.answerer.now (g.W.Write.contents c.args.writer.now) (g.R.Read.remaining c.loop.reader) p.so_far)

pub returns-clause-part : goal.returns-clause-part
returns-clause-part g c = λ begun is.
    let takes = g.A.AnswerLine.Takes in
    let p = c.loop.invariant begun is in
    let s = c.in_ok-catch_up-2.ensures.answered ((begun ++ c.args.intake.now.ahead) ++ p.input) c.args.answerer.now (g.W.Write.contents c.args.writer.now) (g.R.Read.remaining c.loop.reader) p.so_far in
    let none : c.catch_up-2.new.intake.ahead ≡ [] = rw c.if-branch-2.false at c.in_ok-catch_up-2.ensures.paused in
    part-left takes (Err fault.Read) p (read-failed takes (g.R.Read.remaining c.loop.reader) none s)
