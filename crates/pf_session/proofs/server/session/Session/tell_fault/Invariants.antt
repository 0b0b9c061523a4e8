use Rattle.std.proofs.Common.{ℕ, List, length, Err}
use Rattle.pf_core.specs.declared.reply.Refusal.TheVariants.{Fault}
use Rattle.pf_book.specs.Groups.{IsGroupAnswered}
use Rattle.pf_session.specs.Server.SessionRuns.{AreMeant, HavePassed}
use Rattle.pf_session.proofs.Running.{IsFaulting}
use Rattle.pf_session.proofs.server.session.Session.tell_fault.Given as goal

abbrev pub invariant-loop : goal.invariant-loop
invariant-loop g l = (lines : List (List ℕ)) → AreMeant lines l.commands → HavePassed (g.G.Gate.passed l.fn.self.gate.now l.fn.self.number) l.fn.self.line (length l.commands)
    → IsGroupAnswered g.J.Naming.base g.J.Chapter.setting l.commands (Err Fault) l.fn.self.last.now
    → IsFaulting g.G.Gate.passed g.J.Naming.base g.J.Chapter.setting lines l.commands l.index l.fn.self l.self (g.O.Write.contents l.fn.writer) (g.O.Write.contents l.writer)
