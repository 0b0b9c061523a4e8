-- What a session does, over whatever answers a line: `Serves old new lines text` says that these lines took the old
-- state to the new one and that this text was their reply.
use Rattle.std.specs.{Prelude.{◌≡◌, ℕ, ◌≤◌, List, [], ◌++◌, length, Option, Result, Ok, Err, ◌⊎◌}, Io.KnownBytes.{Appends, Consumes, Keeps, IsAtEnd}}
use Rattle.pf_addr.specs.Writing.{WritesFront}
use Rattle.pf_session.specs.declared.line_engine.fault.EngineFault.{EngineFault}
use Rattle.pf_session.specs.declared.line_engine.fault.EngineFault.TheVariants as fault
use Rattle.pf_session.specs.LineEngine.Lines.{IsCut, last_line}

-- These lines, or whatever else is answered one by one, were answered, and every reply was written.
pub record Answered {S L : Type 0} (Serves : S → S → List L → List ℕ → Type 0)
    (lines : List L) (old new : S) (held held' : Option (List ℕ)) : Type 0 where
  pub text : List ℕ
  pub served : Serves old new lines text
  pub written : Appends held held' text

-- Some of these lines, from the front on, were answered, and then a write failed: every reply was written but that to
-- the last one, and some front of it was.
pub record CutOff {S L : Type 0} (Serves : S → S → List L → List ℕ → Type 0)
    (lines : List L) (old new : S) (held held' : Option (List ℕ)) : Type 0 where
  pub earlier : List L
  pub last : List L
  pub others : List L
  pub lines_are : lines ≡ earlier ++ (last ++ others)
  pub one : length last ≤ 1
  pub before : S
  pub mid : Option (List ℕ)
  pub answered : Answered Serves earlier old before held mid
  pub text : List ℕ
  pub served : Serves before new last text
  pub front : WritesFront mid held' text

-- What was done for an input that is cut into these whole lines and this rest. At its end all its lines are answered, and where no more
-- could be read all its whole lines. Where a write failed, some lines from the front on are, and the rest is one only at the input's end.
-- Where there was no memory for the line buffer, nothing is.
abbrev pub SessionEnds : {S : Type 0} → (S → S → List (List ℕ) → List ℕ → Type 0)
    → Result (Unit {0}) EngineFault → List ℕ → List (List ℕ) → List ℕ → Option (List ℕ) → S → S → Option (List ℕ) → Option (List ℕ) → Type 0
SessionEnds Serves (Ok u) input lines rest unread old new held held' =
    Answered Serves (lines ++ last_line rest) old new held held' × IsAtEnd unread
SessionEnds Serves (Err fault.Read) input lines rest unread old new held held' = Answered Serves lines old new held held'
SessionEnds Serves (Err fault.Write) input lines rest unread old new held held' =
    CutOff Serves lines old new held held' ⊎ (CutOff Serves (lines ++ last_line rest) old new held held' × IsAtEnd unread)
SessionEnds Serves (Err fault.Memory) input lines rest unread old new held held' = (input ≡ []) × (new ≡ old) × Keeps held held'

-- What was read, and what was done for it.
pub record IsSession {S : Type 0} (Serves : S → S → List (List ℕ) → List ℕ → Type 0)
    (result : Result (Unit {0}) EngineFault) (unread still_unread : Option (List ℕ)) (old new : S) (held held' : Option (List ℕ)) : Type 0 where
  pub input : List ℕ
  pub lines : List (List ℕ)
  pub rest : List ℕ
  pub read : Consumes unread still_unread input
  pub cut : IsCut input lines rest
  pub ends : SessionEnds Serves result input lines rest still_unread old new held held'
