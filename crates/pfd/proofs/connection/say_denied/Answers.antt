use Rattle.pf_session.specs.Server.Askings.{denied_text}
use Rattle.pf_session.proofs.Flushing.{flushed}
use Rattle.pfd.proofs.connection.say_denied.Goals as goal

pub returns-in-Ok : goal.returns-in-Ok
returns-in-Ok g c =
    flushed c.flush.result (g.O.Write.contents c.args.writer.now) (g.O.Write.contents c.deny.new.writer) (g.O.Write.contents c.flush.new.self)
    denied_text c.in-Ok.ensures c.flush.ensures.bytes
