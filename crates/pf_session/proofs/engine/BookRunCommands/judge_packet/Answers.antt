use Rattle.std.proofs.Common.{false, refl, arith}
use Rattle.pf_core.specs.declared.reply.Answer.TheVariants as answer
use Rattle.pf_core.specs.declared.reply.Reply.TheVariants.{Answer as Answered}
use Rattle.pf_core.specs.Worlds.{upshot}
use Rattle.pf_line.specs.Reply.Replies.{reply_text}
use Rattle.pf_session.proofs.engine.BookRunCommands.judge_packet.Goals as goal

pub returns : goal.returns
returns g c = (
  reply_text (Answered (answer.Judged c.judge.result)),
  record {
    reply = Answered (answer.Judged c.judge.result);
    upshot = upshot c.args.self.now.shown false;
    reported = refl;
    worlds = c.judge.ensures.worlds;
    setting = refl;
    failed = omega arith;
  },
  c.write_judged.ensures.text,
)
