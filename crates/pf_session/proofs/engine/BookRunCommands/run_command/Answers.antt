use Rattle.std.proofs.Common.{refl}
use Rattle.std.specs.Prelude.{nat_lt}
use Rattle.pf_core.specs.Worlds.{upshot}
use Rattle.pf_line.specs.Reply.Replies.{reply_text}
use Rattle.pf_book.specs.Books.{is_fault_reply}
use Rattle.pf_session.proofs.Calling.{one-failed}
use Rattle.pf_session.proofs.engine.BookRunCommands.run_command.Goals as goal

pub returns : goal.returns
returns g c =
    let old = g.D.Disk.fault_count c.args.self.now.disk in
    let new = g.D.Disk.fault_count c.run-reply.new.self.disk in (
      reply_text c.run-reply.result,
      record {
        reply = c.run-reply.result;
        upshot = upshot c.run-reply.new.self.shown (nat_lt old new);
        reported = refl;
        worlds = c.run-reply.ensures.worlds;
        setting = c.run-reply.ensures.opening.setting;
        failed = one-failed old new (is_fault_reply c.run-reply.result) c.run-reply.ensures.device.run.faults;
      },
      c.tell.ensures,
    )
