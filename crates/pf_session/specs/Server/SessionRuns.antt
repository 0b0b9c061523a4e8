-- A session's struct, as far as it moves on.
use Rattle.std.specs.Prelude.{◌≡◌, ℕ, zero, suc, List, [], ◌∷◌, Some, None, Ok, ⊤}
use Rattle.pf_core.specs.declared.command.Command.{Command}
use Rattle.pf_core.specs.{Durable.Changes.PlainDurable, Worlds.Setting}
use Rattle.pf_session.specs.declared.server.session.Session.{Session}
use Rattle.pf_line.specs.{declared.{request.Request.Request, request.Request.TheVariants.Run}, Lines.{line_at, Means}}
use Rattle.pf_session.specs.Server.Sittings.{RunsOrShows, TakesLine, Sitting, next_line, packet_in}

abbrev pub sitting : {C J G : Type 0} → Session C J G → Sitting
sitting s = record { line = s.line; last = s.last.now; seer = s.seer.now }

-- it is the same session: its seer, the place of its receipt, its number and its gate are
pub record IsSame {C J G : Type 0} (old new : Session C J G) : Type 0 where
  pub seer : new.seer.ghost_name ≡ old.seer.ghost_name
  pub last : new.last.ghost_name ≡ old.last.ghost_name
  pub number : new.number ≡ old.number
  pub gate : new.gate ≡ old.gate

-- this request took it from the one to the other
pub record RunsInSession {C J G : Type 0} (base : PlainDurable) (setting : Setting) (q : Request)
    (old new : Session C J G) (text : List ℕ) : Type 0 where
  pub same : IsSame old new
  pub runs : RunsOrShows base setting q (sitting old) (sitting new) text

-- this line took it from the one to the other
pub record TakesInSession {C J G : Type 0} (passed : G → ℕ → ℕ → Type 0) (base : PlainDurable) (setting : Setting) (line : List ℕ)
    (old new : Session C J G) (text : List ℕ) : Type 0 where
  pub same : IsSame old new
  pub takes : TakesLine (passed old.gate.now old.number) base setting line (sitting old) (sitting new) text

-- ---- lines that wait

-- a line means a command for the Book
pub record IsMeant (line : List ℕ) (c : Command) : Type 0 where
  pub means : Means (line_at line) (Ok (Some (Run c)))
  pub unjudged : packet_in c ≡ None

-- each of these lines means its command
abbrev pub AreMeant : List (List ℕ) → List Command → Type 0
AreMeant [] [] = ⊤
AreMeant [] (c ∷ commands) = ⊥
AreMeant (line ∷ lines) [] = ⊥
AreMeant (line ∷ lines) (c ∷ commands) = IsMeant line c × AreMeant lines commands

-- so many lines passed the gate behind the line of this number
abbrev pub HavePassed : (ℕ → Type 0) → ℕ → ℕ → Type 0
HavePassed passed line zero = ⊤
HavePassed passed line (suc n) = passed (next_line line) × HavePassed passed (next_line line) n
