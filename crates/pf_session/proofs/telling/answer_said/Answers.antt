use Rattle.std.proofs.Common.{[]}
use Rattle.pf_core.specs.declared.reply.Reply.TheVariants.{Refused}
use Rattle.pf_line.specs.Reply.Replies.{reply_text}
use Rattle.pf_session.proofs.{Flushing.appends_none, LineReplies.{silence-replied, request-replied, refusal-replied}}
use Rattle.pf_session.proofs.telling.answer_said.Goals as goal

pub returns-in-Ok-None : goal.returns-in-Ok-None
returns-in-Ok-None g c = λ line parses refused. (
  [],
  silence-replied g.A.RunCommands.Runs line c.args.runner.now (rw (c.in-Ok-None.is, c.in-Ok-None.field-0-is) at parses),
  appends_none (g.W.Write.contents c.args.writer.now),
)

pub returns-in-Ok-Some : goal.returns-in-Ok-Some
returns-in-Ok-Some g c = λ line parses refused.
    let (text, runs, written) = c.do_request.ensures in (
      text,
      request-replied g.A.RunCommands.Runs line c.in-Ok-Some.request c.args.runner.now c.do_request.new.runner text runs (rw (c.in-Ok-Some.is, c.in-Ok-Some.field-0-is) at parses),
      written,
    )

pub returns-in-Err : goal.returns-in-Err
returns-in-Err g c = λ line parses refused. (
  reply_text (Refused c.in-Err.refusal),
  refusal-replied g.A.RunCommands.Runs line c.in-Err.refusal c.args.runner.now (rw c.in-Err.is at parses) (rw c.in-Err.is at refused),
  c.refuse.ensures,
)
