use Rattle.std.proofs.Common.{Ok, Err, refl}
use Rattle.pf_core.specs.declared.reply.Reply.TheVariants.{Refused}
use Rattle.pf_line.specs.Reply.Replies.{reply_text}
use Rattle.pf_session.specs.Server.Streams.{group_text}
use Rattle.pf_session.proofs.Grouping.{asked-each, group-run}
use Rattle.pf_session.proofs.server.stream.Follower.run_group.Goals as goal

pub returns-in-Ok : goal.returns-in-Ok
returns-in-Ok g c = λ messages is. (
  group_text messages (Ok c.in-Ok.answers.items),
  group-run g.J.Naming.base g.J.Chapter.setting (Ok c.in-Ok.answers.items) c.args.commands.now c.args.self.now.last c.keep_last.new.last messages is c.requires.some c.requires.few (rw c.as_ref.ensures.value at c.in-Ok.ensures) c.keep_last.ensures,
  rw c.deref.ensures.value at c.write_replies-written.ensures,
)

pub returns-in-Err : goal.returns-in-Err
returns-in-Err g c = λ messages is. (
  group_text messages (Err c.in-Err.refusal),
  group-run g.J.Naming.base g.J.Chapter.setting (Err c.in-Err.refusal) c.args.commands.now c.args.self.now.last c.args.self.now.last messages is c.requires.some c.requires.few (rw c.as_ref.ensures.value at c.in-Err.ensures) refl,
  rw (is, asked-each (reply_text (Refused c.in-Err.refusal)) messages) at c.refuse_each.ensures,
)
