use Rattle.std.proofs.Common.{string_bytes}
use Rattle.std.proofs.lemmas.Result.{err_from_is_err_and}
use Rattle.pf_addr.specs.Writing.{Appends-none}
use Rattle.pf_session.proofs.Replying.{cut-text, one-text-more}
use Rattle.pfd.specs.Program.{listening_text}
use Rattle.pfd.proofs.program.serving.tell_all.Goals as goal

pub loop-name-init : goal.loop-name-init
loop-name-init g c = Appends-none (g.W.Write.contents c.args.writer.now)

pub loop-name-preserved : goal.loop-name-preserved
loop-name-preserved g c =
    let at = c.loop-name in
    one-text-more (λ name. listening_text (string_bytes name)) c.args.names.now at.name-index c.name-item.result (g.W.Write.contents c.args.writer.now) (g.W.Write.contents at.writer) (g.W.Write.contents c.tell.new.writer)
    c.loop-name-test.true at.invariant (rw (c.as_bytes.ensures.value, c.name-item.is) at c.in_ok-tell.ensures)

pub returns-in_err-tell : goal.returns-in_err-tell
returns-in_err-tell g c =
    let at = c.loop-name in
    let (e, failed, same) = err_from_is_err_and c.from_residual.result c.from_residual.ensures.1 in
    rw failed (cut-text (λ name. listening_text (string_bytes name)) c.args.names.now at.name-index c.name-item.result (g.W.Write.contents c.args.writer.now) (g.W.Write.contents at.writer) (g.W.Write.contents c.tell.new.writer)
    c.loop-name-test.true at.invariant (rw (c.as_bytes.ensures.value, c.name-item.is) at c.in_err-tell.ensures))
