-- The register of the jobs: its rule, and which job has a number.
use Rattle.std.specs.Prelude.{ℕ, ◌≡◌, true, List, [], ◌∷◌, length, Option, Some, slice_get}
use Rattle.logbook.specs.Pages.{Cell, Step, View, Book, Named}

-- The first word is how many jobs there were. A book has two words, of which this one leaves the second at 0.
abbrev pub IsKept : {E : Type 0} → List Cell → List E → Type 0
IsKept cells log = cells ≡ (length log, true) ∷ (0, true) ∷ []

abbrev pub head_of : Book → Named
head_of b = record { tracked = true; key = 0; book = b }

-- if the word was the one that was expected, the job has that number
abbrev pub Adds : {E : Type 0} → Step E → View E ℕ → ℕ → View E ℕ → Type 0
Adds s v found w = found ≡ s.old → slice_get w.0 s.old ≡ Some s.ask

-- what is noted under this number, if anything is
abbrev pub noted_at : {E : Type 0} → List E → ℕ → Option E
noted_at log number = slice_get log number

-- the job of which this is noted has this number
abbrev pub IsNumbered : {E : Type 0} → List E → ℕ → E → Type 0
IsNumbered log number entry = noted_at log number ≡ Some entry

-- a number, and a beginning of the register in which a job has it
pub record PlainNumber (E : Type 0) : Type 0 where
  pub number : ℕ
  pub log : List E

-- a job that waits, with its number and a beginning of the register that has it
pub record PlainWaiting (J E : Type 0) : Type 0 where
  pub job : J
  pub number : ℕ
  pub log : List E

-- an answer that lies ready, with its job's number and a beginning of the register that has it
pub record PlainReady (E A : Type 0) : Type 0 where
  pub number : ℕ
  pub log : List E
  pub answer : A
