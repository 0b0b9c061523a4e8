use Rattle.std.proofs.lemmas.Result.{err_from_is_err_and}
use Rattle.pf_core.specs.declared.reply.Reply.TheVariants.{Refused}
use Rattle.pf_line.specs.Reply.Replies.{reply_text}
use Rattle.pf_session.proofs.Replying.{cut-text}
use Rattle.pf_session.proofs.server.stream.refuse_each.Goals as goal

pub returns-in_err-refuse : goal.returns-in_err-refuse
returns-in_err-refuse g c =
    let at = c.loop in
    let (e, failed, same) = err_from_is_err_and c.from_residual.result c.from_residual.ensures.1 in
    rw failed (cut-text (λ x. reply_text (Refused c.args.refusal)) c.args.commands.now at.index c.loop-item.result (g.O.Write.contents c.args.writer.now) (g.O.Write.contents at.writer) (g.O.Write.contents c.refuse.new.writer)
    c.loop-test.true at.invariant c.in_err-refuse.ensures)
