-- The struct of a session that asks, as far as it moves on.
use Rattle.std.specs.Prelude.{◌≡◌, ℕ, List}
use Rattle.pf_core.specs.{Durable.Changes.PlainDurable, Worlds.Setting}
use Rattle.pf_line.specs.declared.request.Request.{Request}
use Rattle.pf_session.specs.declared.server.asking.Asker.{Asker}
use Rattle.pf_session.specs.Server.{Askings.{AsksOrShows, AsksLine}, Sittings.Sitting}

-- where it has come to
abbrev pub place : {A J G : Type 0} → Asker A J G → Sitting
place s = record { line = s.line; last = s.last.now; seer = s.seer.now }

-- it is the same session: its seer, the place of its receipt, its number and its gate are
pub record IsSameAsker {A J G : Type 0} (old new : Asker A J G) : Type 0 where
  pub seer : new.seer.ghost_name ≡ old.seer.ghost_name
  pub last : new.last.ghost_name ≡ old.last.ghost_name
  pub number : new.number ≡ old.number
  pub gate : new.gate ≡ old.gate

-- this request took it from the one to the other
pub record AsksInSession {A J G : Type 0} (base : PlainDurable) (setting : Setting) (q : Request)
    (old new : Asker A J G) (text : List ℕ) : Type 0 where
  pub same : IsSameAsker old new
  pub runs : AsksOrShows base setting q (place old) (place new) text

-- this line took it from the one to the other
pub record TakesInAsking {A J G : Type 0} (passed : G → ℕ → ℕ → Type 0) (base : PlainDurable) (setting : Setting) (line : List ℕ)
    (old new : Asker A J G) (text : List ℕ) : Type 0 where
  pub same : IsSameAsker old new
  pub takes : AsksLine (passed old.gate.now old.number) base setting line (place old) (place new) text
