use Rattle.pf_addr.specs.Writing.{Appends-kept}
use Rattle.pf_conf.proofs.CommitTexts.{whole_front}
use Rattle.pf_commit.proofs.replies.send.Goals as goal

pub returns-in-Err-flush : goal.returns-in-Err-flush
returns-in-Err-flush g c =
    whole_front (g.W.Write.contents c.args.server.now) (g.W.Write.contents c.flush.new.self) c.args.lines.now
    (Appends-kept (g.W.Write.contents c.args.server.now) (g.W.Write.contents c.write_text.new.out) (g.W.Write.contents c.flush.new.self) c.args.lines.now c.in-Ok.ensures.text c.flush.ensures.bytes)
