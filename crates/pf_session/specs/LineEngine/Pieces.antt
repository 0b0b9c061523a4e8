-- What the parts of the engine do, wherever a session has come to.
use Rattle.std.specs.{Prelude.{◌≡◌, ℕ, Bool, true, false, List, ◌++◌, Option, Result, Ok, Err}, Io.KnownBytes.{Appends, Keeps}}
use Rattle.pf_addr.specs.Writing.{WritesFront}
use Rattle.pf_session.specs.{LineEngine.Lines.{IsCut, seen}, LineEngine.Sessions.{Answered, CutOff}}

-- the lines were answered, or a failed write cut them off
abbrev pub Answers : {S L A E : Type 0} → (S → S → List L → List ℕ → Type 0)
    → Result A E → List L → S → S → Option (List ℕ) → Option (List ℕ) → Type 0
Answers Serves (Ok x) lines old new held held' = Answered Serves lines old new held held'
Answers Serves (Err e) lines old new held held' = CutOff Serves lines old new held held'

-- Of these lines some were answered, from the front on, and the others wait for their replies.
pub record Taken {S Q : Type 0} (Serves : S → S → List (List ℕ) → List ℕ → Type 0) (Waits : List (List ℕ) → Q → Type 0)
    (lines : List (List ℕ)) (old new : S) (waiting : Q) (held held' : Option (List ℕ)) : Type 0 where
  pub earlier : List (List ℕ)
  pub others : List (List ℕ)
  pub lines_are : lines ≡ earlier ++ others
  pub answered : Answered Serves earlier old new held held'
  pub waits : Waits others waiting

-- the lines were taken, or a failed write cut them off
abbrev pub TakesSome : {S Q A E : Type 0} → (S → S → List (List ℕ) → List ℕ → Type 0) → (List (List ℕ) → Q → Type 0)
    → Result A E → List (List ℕ) → S → S → Q → Option (List ℕ) → Option (List ℕ) → Type 0
TakesSome Serves Waits (Ok x) lines old new waiting held held' = Taken Serves Waits lines old new waiting held held'
TakesSome Serves Waits (Err e) lines old new waiting held held' = CutOff Serves lines old new held held'

-- the whole lines of the input were answered, and as much as is looked at is kept of the rest
pub record SessionSoFar {S : Type 0} (Serves : S → S → List (List ℕ) → List ℕ → Type 0)
    (input kept : List ℕ) (old new : S) (held held' : Option (List ℕ)) : Type 0 where
  pub lines : List (List ℕ)
  pub rest : List ℕ
  pub cut : IsCut input lines rest
  pub kept_is : kept ≡ seen rest
  pub answered : Answered Serves lines old new held held'

-- a failed write cut off the whole lines of the input
pub record Failed {S : Type 0} (Serves : S → S → List (List ℕ) → List ℕ → Type 0)
    (input : List ℕ) (old new : S) (held held' : Option (List ℕ)) : Type 0 where
  pub lines : List (List ℕ)
  pub rest : List ℕ
  pub cut : IsCut input lines rest
  pub cut_off : CutOff Serves lines old new held held'

-- A line was answered, or a failed write cut its reply off; or it wasn't, and nothing was done.
abbrev pub MayAnswer : {S E : Type 0} → (List ℕ → S → S → List ℕ → Type 0) → Result Bool E → List ℕ → S → S → Option (List ℕ) → Option (List ℕ) → Type 0
MayAnswer Takes (Ok true) line old new held held' = (text : List ℕ) × Takes line old new text × Appends held held' text
MayAnswer Takes (Ok false) line old new held held' = (new ≡ old) × Keeps held held'
MayAnswer Takes (Err e) line old new held held' = (text : List ℕ) × Takes line old new text × WritesFront held held' text
