use Rattle.pf_line.specs.Reply.Replies.{reply_text}
use Rattle.pf_session.specs.Server.SessionRuns.{sitting}
use Rattle.pf_session.proofs.JoinedCalls.{joined-replied}
use Rattle.pf_session.proofs.server.session.Session.run_together.Goals as goal

pub returns-in-Some-clause-run : goal.returns-in-Some-clause-run
returns-in-Some-clause-run g c =
    let run = joined-replied g.J.Naming.base g.J.Chapter.setting c.args.command (sitting c.args.self.now) (sitting c.tell_one.new.self) c.in-Some.answer c.call_together.new.last c.in-Some.ensures.1 c.tell_one.ensures.kept in
    (reply_text c.in-Some.answer.0, run, c.tell_one.ensures.written)
