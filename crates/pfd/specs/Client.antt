-- What is carried from a reader to a writer, as it comes.
use Rattle.std.specs.{Prelude.{◌≡◌, ℕ, List, [], Option, Result, Ok, Err}, Io.KnownBytes.{Appends, Consumes, IsAtEnd}}
use Rattle.pf_addr.specs.Writing.{WritesFront}
use Rattle.pf_session.specs.declared.line_engine.fault.EngineFault.{EngineFault}
use Rattle.pf_session.specs.declared.line_engine.fault.EngineFault.TheVariants as fault

-- all that was read is written, to the reader's end or to where no more could be read; or a write failed, and some front of it is
abbrev pub Carried : Result (Unit {0}) EngineFault → List ℕ → Option (List ℕ) → Option (List ℕ) → Option (List ℕ) → Type 0
Carried (Ok u) bytes unread held held' = Appends held held' bytes × IsAtEnd unread
Carried (Err fault.Read) bytes unread held held' = Appends held held' bytes
Carried (Err fault.Write) bytes unread held held' = WritesFront held held' bytes
Carried (Err fault.Memory) bytes unread held held' = (bytes ≡ []) × Appends held held' []

-- These bytes were read, and so carried.
pub record Carries (result : Result (Unit {0}) EngineFault) (unread still_unread held held' : Option (List ℕ)) : Type 0 where
  pub bytes : List ℕ
  pub read : Consumes unread still_unread bytes
  pub carried : Carried result bytes still_unread held held'
