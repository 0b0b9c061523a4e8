use Rattle.std.proofs.Common.{subst, sym}
use Rattle.pf_core.specs.declared.reply.Reply.{Reply}
use Rattle.pf_addr.specs.Writing.{Continues}
use Rattle.pfd.specs.Log.{reply_line}
use Rattle.pfd.proofs.log.line.write_reply_line.Goals as goal

pub returns-in-Stored : goal.returns-in-Stored
returns-in-Stored g c =
    subst (λ (r : Reply). Continues c.args.so_far (g.W.Write.contents c.args.out.now) c.write_numbered-in-Stored.result
    (g.W.Write.contents c.write_numbered-in-Stored.new.out) (reply_line c.args.session c.args.deed.now r)) (sym c.in-Stored.is) c.write_numbered-in-Stored.ensures
