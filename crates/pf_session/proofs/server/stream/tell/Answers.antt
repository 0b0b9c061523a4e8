use Rattle.pf_core.specs.declared.{reply.Refusal.TheVariants.BadPeer, reply.Reply.TheVariants.Refused}
use Rattle.pf_line.specs.Reply.Replies.{reply_text}
use Rattle.pf_session.proofs.Flushing.{flushed}
use Rattle.pf_session.proofs.server.stream.tell.Goals as goal

pub returns-in-Ok : goal.returns-in-Ok
returns-in-Ok g c =
    flushed c.flush.result (g.O.Write.contents c.args.writer.now) (g.O.Write.contents c.refuse.new.writer) (g.O.Write.contents c.flush.new.self)
    (reply_text (Refused (BadPeer c.args.fault))) c.in-Ok.ensures c.flush.ensures.bytes
