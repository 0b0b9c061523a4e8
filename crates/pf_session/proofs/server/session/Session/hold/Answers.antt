use Rattle.std.proofs.Common.{ℕ, List, inl}
use Rattle.std.specs.Prelude.{Vec}
use Rattle.std.specs.declared.alloc.Global.{Global}
use Rattle.pf_core.specs.declared.command.Command.{Command}
use Rattle.pf_session.specs.Server.SessionRuns.{AreMeant, TakesInSession}
use Rattle.pf_session.proofs.{AnsweredLines.still-waiting, Running.{meant-more, meant-seen}}
use Rattle.pf_session.proofs.server.session.Session.hold.Goals as goal

pub returns-in-Ok : goal.returns-in-Ok
returns-in-Ok g c = λ lines line whole meant one is.
    still-waiting (TakesInSession g.G.Gate.passed g.J.Naming.base g.J.Chapter.setting) (λ (ls : List (List ℕ)) (commands : Vec Command Global). AreMeant ls commands.items) c.args.self.now (g.O.Write.contents c.args.writer.now)
    (rw c.in-Ok.ensures.items (meant-more lines c.args.waiting.now.items whole c.args.command meant (meant-seen line whole c.args.command is one)))

pub returns-in-Err : goal.returns-in-Err
returns-in-Err g c = λ lines line whole meant one is.
    c.answer_after.ensures lines line whole (rw c.in-Err.ensures.items meant) (inl (rw c.in-Err.ensures.value_returned one.means)) tt is
