-- Cutting a line into words, while testing its bytes.
use Rattle.std.specs.{Prelude.{◌≡◌, true, false, List, [], ◌∷◌, ℕ, Result, Ok, Err}, List.list_all}
use Rattle.pf_form.specs.Form.Words.{Word, words_of}
use Rattle.pf_line.specs.Lines.{is_line_byte}
use Rattle.pf_line.specs.declared.{cut.CutFault.CutFault, cut.CutFault.TheVariants.{BadByte, NoPlace}}

-- the word alone, or none if it is empty
abbrev pub if_some : Word → List Word
if_some [] = []
if_some (b ∷ bs) = (b ∷ bs) ∷ []

-- these are the line's words, and each of its bytes is allowed; or else why it isn't cut
abbrev pub CutTo : {A : Type 0} → List ℕ → Result A CutFault → (A → List Word) → Type 0
CutTo line (Ok x) words = (words x ≡ words_of line) × (list_all is_line_byte line ≡ true)
CutTo line (Err BadByte) words = list_all is_line_byte line ≡ false
CutTo line (Err NoPlace) words = Unit {0}
