use Rattle.std.proofs.Common.{◌≡◌, ℕ, List, length}
use Rattle.std.specs.Vec.Iter.{into_iter_items, into_iter_len}
use Rattle.pf_session.specs.Server.SessionRuns.{AreMeant}
use Rattle.pf_session.proofs.Running.{IsUnderWay}
use Rattle.pf_session.proofs.server.session.Session.run_each.Given as goal

abbrev pub invariant-loop-command : goal.invariant-loop-command
invariant-loop-command g l = record {
  len : into_iter_len l.command-iterator ≡ length (into_iter_items l.command-iterator);
  way : (lines : List (List ℕ)) → AreMeant lines l.fn.commands.items
      → IsUnderWay g.G.Gate.passed g.J.Naming.base g.J.Chapter.setting lines (into_iter_items l.command-iterator) l.fn.self l.self (g.O.Write.contents l.fn.writer) (g.O.Write.contents l.writer);
}
