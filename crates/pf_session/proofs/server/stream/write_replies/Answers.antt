use Rattle.std.proofs.lemmas.Result.{err_from_is_err_and}
use Rattle.pf_addr.specs.Writing.{Appends-none}
use Rattle.pf_line.specs.Reply.Replies.{reply_text}
use Rattle.pf_session.proofs.Replying.{cut-text, one-text-more}
use Rattle.pf_session.proofs.server.stream.write_replies.Goals as goal

pub loop-answer-init : goal.loop-answer-init
loop-answer-init g c = Appends-none (g.O.Write.contents c.args.writer.now)

pub loop-answer-preserved : goal.loop-answer-preserved
loop-answer-preserved g c =
    let at = c.loop-answer in
    one-text-more (λ a. reply_text a.0) c.args.answers.now at.answer-index c.answer-item.result (g.O.Write.contents c.args.writer.now) (g.O.Write.contents at.writer) (g.O.Write.contents c.write_reply.new.out)
    c.loop-answer-test.true at.invariant (rw c.answer-item.is at c.in_ok-write_reply.ensures.text)

pub returns-in_err-write_reply : goal.returns-in_err-write_reply
returns-in_err-write_reply g c =
    let at = c.loop-answer in
    let (e, failed, same) = err_from_is_err_and c.from_residual.result c.from_residual.ensures.1 in
    rw failed (cut-text (λ a. reply_text a.0) c.args.answers.now at.answer-index c.answer-item.result (g.O.Write.contents c.args.writer.now) (g.O.Write.contents at.writer) (g.O.Write.contents c.write_reply.new.out)
    c.loop-answer-test.true at.invariant (rw c.answer-item.is at c.in_err-write_reply.ensures.text))
