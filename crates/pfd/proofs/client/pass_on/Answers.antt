use Rattle.pf_session.proofs.Flushing.{flushed}
use Rattle.pfd.proofs.client.pass_on.Goals as goal

pub returns-in-Ok : goal.returns-in-Ok
returns-in-Ok g c =
    flushed c.flush.result (g.W.Write.contents c.args.writer.now) (g.W.Write.contents c.write_text.new.out) (g.W.Write.contents c.flush.new.self)
    c.args.bytes.now c.in-Ok.ensures.text c.flush.ensures.bytes
