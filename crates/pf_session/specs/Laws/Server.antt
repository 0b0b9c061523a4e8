-- What is looked at of a line, in a session over a shared Book.
use Rattle.std.proofs.Common.{ℕ, List}
use Rattle.pf_core.specs.{Durable.Changes.PlainDurable, Worlds.Setting}
use Rattle.pf_session.specs.declared.server.session.Session.{Session}
use Rattle.pf_session.specs.{LineEngine.Lines.seen, Laws.Seeing.seen-replied, Server.Sittings.{RunsOrShows, at_next_line}, Server.SessionRuns.{TakesInSession, sitting}}

module _ {C J G : Type 0} (passed : G → ℕ → ℕ → Type 0) (base : PlainDurable) (setting : Setting) where
  pub attends-seen : (old new : Session C J G) (line text : List ℕ) → TakesInSession passed base setting (seen line) old new text → TakesInSession passed base setting line old new text
  attends-seen old new line text p = record {
    same = p.same;
    takes = record { gate = p.takes.gate; reported = seen-replied (RunsOrShows base setting) (at_next_line (sitting old)) (sitting new) line text p.takes.reported };
  }
