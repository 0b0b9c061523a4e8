use Rattle.std.proofs.Common.{◌≡◌, ℕ, List, ◌++◌, length, Ok}
use Rattle.std.specs.Vec.Iter.{into_iter_items, into_iter_len}
use Rattle.pf_core.specs.declared.command.Command.{Command}
use Rattle.pf_book.specs.Groups.{IsAnsweredAsAlone}
use Rattle.pf_session.specs.Server.SessionRuns.{AreMeant, HavePassed}
use Rattle.pf_session.proofs.Running.{IsTelling}
use Rattle.pf_session.proofs.server.session.Session.tell_each.Given as goal

abbrev pub invariant-loop-answer : goal.invariant-loop-answer
invariant-loop-answer g l = record {
  len : into_iter_len l.answer-iterator ≡ length (into_iter_items l.answer-iterator);
  all : l.yielded ++ into_iter_items l.answer-iterator ≡ l.fn.answers.items;
  way : (lines : List (List ℕ)) (commands : List Command) → AreMeant lines commands → HavePassed (g.G.Gate.passed l.fn.self.gate.now l.fn.self.number) l.fn.self.line (length commands)
      → IsAnsweredAsAlone g.J.Naming.base g.J.Chapter.setting commands (Ok l.fn.answers.items) l.fn.self.last.now
      → IsTelling g.G.Gate.passed g.J.Naming.base g.J.Chapter.setting lines commands l.yielded (into_iter_items l.answer-iterator) l.fn.self l.self (g.O.Write.contents l.fn.writer) (g.O.Write.contents l.writer);
}
