-- What a session has read and not answered, where it pauses and goes on.
use Rattle.std.specs.{Prelude.{◌≡◌, ℕ, Bool, List, [], ◌++◌, MatchBool, Option, Result, Ok, Err, ⊤}, Io.KnownBytes.Consumes}
use Rattle.pf_session.specs.declared.{line_engine.fault.EngineFault.EngineFault, line_engine.left_off.LeftOff.LeftOff, line_engine.left_off.LeftOff.TheVariants.{Ended, Paused}}
use Rattle.pf_session.specs.declared.line_engine.fault.EngineFault.TheVariants as fault
use Rattle.pf_session.specs.{LineEngine.Lines.{IsCut, IsLine, seen}, LineEngine.Sessions.SessionEnds, LineEngine.Pieces.SessionSoFar}

-- what is kept of a line that has begun, and what was read behind it and not looked at yet
pub record PlainIntake : Type 0 where
  pub kept : List ℕ
  pub ahead : List ℕ

abbrev pub nothing_read : PlainIntake
nothing_read = record { kept = []; ahead = [] }

-- the line that has begun is this one, as far as it has come
abbrev pub HasBegun : PlainIntake → List ℕ → Type 0
HasBegun intake begun = IsLine begun × (intake.kept ≡ seen begun)

-- Of an input whole lines were answered, from the front on; behind them comes the line that has begun, and then what wasn't looked at.
pub record AnsweredSoFar {S : Type 0} (Serves : S → S → List (List ℕ) → List ℕ → Type 0)
    (input : List ℕ) (intake : PlainIntake) (old new : S) (held held' : Option (List ℕ)) : Type 0 where
  pub before : List ℕ
  pub so_far : SessionSoFar Serves before intake.kept old new held held'
  pub input_is : input ≡ before ++ intake.ahead

-- What was done for an input to which no more comes.
pub record EndsWith {S : Type 0} (Serves : S → S → List (List ℕ) → List ℕ → Type 0)
    (result : Result (Unit {0}) EngineFault) (input : List ℕ) (unread : Option (List ℕ)) (old new : S) (held held' : Option (List ℕ)) : Type 0 where
  pub lines : List (List ℕ)
  pub rest : List ℕ
  pub cut : IsCut input lines rest
  pub ends : SessionEnds Serves result input lines rest unread old new held held'

-- What was done for an input, by how the session left off. It never has no memory, since it has the room for what it reads.
abbrev pub LeavesOff : {S : Type 0} → (S → S → List (List ℕ) → List ℕ → Type 0)
    → Result LeftOff EngineFault → List ℕ → PlainIntake → Option (List ℕ) → S → S → Option (List ℕ) → Option (List ℕ) → Type 0
LeavesOff Serves (Ok Paused) input intake unread old new held held' = AnsweredSoFar Serves input intake old new held held'
LeavesOff Serves (Ok Ended) input intake unread old new held held' = EndsWith Serves (Ok tt) input unread old new held held'
LeavesOff Serves (Err fault.Read) input intake unread old new held held' = EndsWith Serves (Err fault.Read) input unread old new held held'
LeavesOff Serves (Err fault.Write) input intake unread old new held held' = EndsWith Serves (Err fault.Write) input unread old new held held'
LeavesOff Serves (Err fault.Memory) input intake unread old new held held' = ⊥

-- A part of a session: what it read behind a text that it had read before, what was done for both, and what it then has read and not
-- answered.
pub record IsPart {S : Type 0} (Serves : S → S → List (List ℕ) → List ℕ → Type 0)
    (result : Result LeftOff EngineFault) (text : List ℕ) (intake : PlainIntake) (unread still_unread : Option (List ℕ)) (old new : S) (held held' : Option (List ℕ)) : Type 0 where
  pub input : List ℕ
  pub read : Consumes unread still_unread input
  pub leaves : LeavesOff Serves result (text ++ input) intake still_unread old new held held'

-- If no pause is due, all that was read was looked at.
abbrev pub IsCaughtUp : Type 0 → Result Bool EngineFault → PlainIntake → Type 0
IsCaughtUp MayPause (Ok paused) intake = MatchBool paused MayPause (intake.ahead ≡ [])
IsCaughtUp MayPause (Err why) intake = ⊤
