-- The lines of a text. A line ends at a newline, and the last one also at the end of the text.
use Rattle.std.specs.{Prelude.{◌≡◌, ◌≢◌, ℕ, List, [], ◌∷◌, ◌++◌, take, All}, List.flat_map}
use Rattle.pf_session.specs.declared.line_engine.answer_line.TheConstants.{LOOKED_AT}

abbrev pub newline : ℕ
newline = 10

-- no newline stands in it
abbrev pub IsLine : List ℕ → Type 0
IsLine line = All (λ b. b ≢ newline) line

-- lines, each with its newline
abbrev pub ended : List (List ℕ) → List ℕ
ended lines = flat_map (λ line. line ++ newline ∷ []) lines

-- A text is these whole lines, each with its newline, and after the last newline this rest.
pub record IsCut (text : List ℕ) (lines : List (List ℕ)) (rest : List ℕ) : Type 0 where
  pub joined : ended lines ++ rest ≡ text
  pub whole : All IsLine lines
  pub unended : IsLine rest

-- a rest is a line where the text has ended, unless it is empty
abbrev pub last_line : List ℕ → List (List ℕ)
last_line [] = []
last_line (b ∷ bs) = (b ∷ bs) ∷ []

-- what is looked at of a line
abbrev pub seen : List ℕ → List ℕ
seen line = take LOOKED_AT line
