-- The words of a line, said without cutting it: what is between its blanks.
use Rattle.std.specs.Prelude.{◌≡◌, ℕ, ◌<◌, true, false, List, [], ◌∷◌, ◌++◌, length, All}
use Rattle.pf_form.specs.Form.Words.{Word, is_blank}

abbrev pub AreBlanks : List ℕ → Type 0
AreBlanks = All (λ b. is_blank b ≡ true)

-- a byte or more, and no blank
abbrev pub IsWord : Word → Type 0
IsWord w = (0 < length w) × All (λ b. is_blank b ≡ false) w

-- nothing, or a blank and more
abbrev pub EndsWord : List ℕ → Type 0
EndsWord [] = Unit {0}
EndsWord (b ∷ bs) = is_blank b ≡ true

-- a line is blanks, a word, and what comes after it, which is nothing or begins with a blank
pub record IsFirstWord (line : List ℕ) (w : Word) (following : List ℕ) : Type 0 where
  pub blanks : List ℕ
  pub all : line ≡ blanks ++ w ++ following
  pub blank : AreBlanks blanks
  pub word : IsWord w
  pub ends : EndsWord following

-- a line is words between blanks: blanks alone, or a first word and the others after it
abbrev pub IsCut : List ℕ → List Word → Type 0
IsCut line [] = AreBlanks line
IsCut line (w ∷ ws) = (following : List ℕ) × IsFirstWord line w following × IsCut following ws
