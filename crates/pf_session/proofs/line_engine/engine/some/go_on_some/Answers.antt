use Rattle.std.proofs.{Common.{◌≡◌, ◌++◌, [], Err, Ok}, lemmas.Result.err_from_is_err_and}
use Rattle.pf_session.specs.declared.line_engine.left_off.LeftOff.TheVariants.{Paused}
use Rattle.pf_session.specs.declared.line_engine.fault.EngineFault.TheVariants as fault
use Rattle.pf_session.proofs.{Pausing.{part-answered, part-begun, part-left, part-more, part-waited, read-failed}, line_engine.engine.some.go_on_some.Goals.{in-Ok+else-n-eq0, in-Err+else-ne}}
use Rattle.pf_session.proofs.line_engine.engine.some.go_on_some.Goals as goal

pub loop-init : goal.loop-init
loop-init g c = λ begun is. part-begun g.A.AnswerSome.Takes c.args.intake.now begun (g.R.Read.remaining c.args.reader.now) c.args.answerer.now (g.W.Write.contents c.args.writer.now) is

pub returns-in_err-catch_up_some-clause-part : goal.returns-in_err-catch_up_some-clause-part
returns-in_err-catch_up_some-clause-part g c = λ begun is.
    let p = c.loop.invariant begun is in
    let e = err_from_is_err_and c.from_residual.result c.from_residual.ensures.1 in
    rw (e.1, e.2)
    (part-left g.A.AnswerSome.Takes _ p (c.in_err-catch_up_some.ensures.answered ((begun ++ c.args.intake.now.ahead) ++ p.input) c.args.answerer.now (g.W.Write.contents c.args.writer.now) (g.R.Read.remaining c.loop.reader) p.so_far))

pub returns-then-branch-clause-part : goal.returns-then-branch-clause-part
returns-then-branch-clause-part g c = λ begun is.
    let p = c.loop.invariant begun is in
    part-left g.A.AnswerSome.Takes (Ok Paused) p (c.in_ok-catch_up_some.ensures.answered ((begun ++ c.args.intake.now.ahead) ++ p.input) c.args.answerer.now (g.W.Write.contents c.args.writer.now) (g.R.Read.remaining c.loop.reader) p.so_far)

pub returns-then-n-eq0-clause-part : goal.returns-then-n-eq0-clause-part
returns-then-n-eq0-clause-part g c = λ begun is.
    let takes = g.A.AnswerSome.Takes in
    let p = c.loop.invariant begun is in
    let s = c.in_ok-catch_up_some.ensures.answered ((begun ++ c.args.intake.now.ahead) ++ p.input) c.args.answerer.now (g.W.Write.contents c.args.writer.now) (g.R.Read.remaining c.loop.reader) p.so_far in
    let none : c.catch_up_some.new.intake.ahead ≡ [] = rw c.if-branch.false at c.in_ok-catch_up_some.ensures.caught_up in
    let q = part-more takes (g.R.Read.remaining c.read.new.reader) none c.in-Ok.ensures.kept c.in-Ok.ensures.read.1 (part-answered takes p s) in
    part-left takes (Ok Paused) q q.so_far

pub returns-then-ne-clause-part : goal.returns-then-ne-clause-part
returns-then-ne-clause-part g c = λ begun is.
    let takes = g.A.AnswerSome.Takes in
    let p = c.loop.invariant begun is in
    let s = c.in_ok-catch_up_some.ensures.answered ((begun ++ c.args.intake.now.ahead) ++ p.input) c.args.answerer.now (g.W.Write.contents c.args.writer.now) (g.R.Read.remaining c.loop.reader) p.so_far in
    let none : c.catch_up_some.new.intake.ahead ≡ [] = rw c.if-branch.false at c.in_ok-catch_up_some.ensures.caught_up in
    let q = part-waited takes (g.R.Read.remaining c.read.new.reader) none c.in-Err.ensures.kept c.in-Err.ensures.failed.0 c.in-Err.ensures.failed.1 (part-answered takes p s) in
    part-left takes (Err fault.Read) q (read-failed takes (g.R.Read.remaining c.read.new.reader) c.in-Err.ensures.failed.0 q.so_far)

pub loop-preserved : goal.loop-preserved
loop-preserved g c = λ begun is.
    let takes = g.A.AnswerSome.Takes in
    let p = c.loop.invariant begun is in
    let s = c.in_ok-catch_up_some.ensures.answered ((begun ++ c.args.intake.now.ahead) ++ p.input) c.args.answerer.now (g.W.Write.contents c.args.writer.now) (g.R.Read.remaining c.loop.reader) p.so_far in
    let none : c.catch_up_some.new.intake.ahead ≡ [] = rw c.if-branch.false at c.in_ok-catch_up_some.ensures.caught_up in
    elim c.match-read.branch [
      | in-Ok+else-n-eq0 w ↦ part-more takes (g.R.Read.remaining c.read.new.reader) none w.in-Ok.ensures.kept w.in-Ok.ensures.read.1 (part-answered takes p s)
      | in-Err+else-ne w ↦ part-waited takes (g.R.Read.remaining c.read.new.reader) none w.in-Err.ensures.kept w.in-Err.ensures.failed.0 w.in-Err.ensures.failed.1 (part-answered takes p s)
    ]

pub returns-clause-part : goal.returns-clause-part
returns-clause-part g c = λ begun is.
    let p = c.loop.invariant begun is in
    part-left g.A.AnswerSome.Takes (Ok Paused) p p.so_far
