-- What follows from the definitions of paths, as laws in contracts.
use Rattle.std.specs.Prelude.{◌≡◌, ℕ, true, List, Ok}
use Rattle.pf_addr.specs.Path.{Paths.{path_of, path_text, is_path, same_path}, PathGrammar.SpellsPath}
use Rattle.pf_form.specs.Form.Words.{Word}

-- what is read is what the word spells
abbrev pub ReadsWhatIsSpelled : Type 0
ReadsWhatIsSpelled = (w : Word) (p : List ℕ) → path_of w ≡ Ok p → SpellsPath w p

-- and what is spelled is read
abbrev pub ReadsAllThatIsSpelled : Type 0
ReadsAllThatIsSpelled = (w : Word) (p : List ℕ) → SpellsPath w p → path_of w ≡ Ok p

-- what is read is a path, and is written as the word that was read
abbrev pub WritesWhatWasRead : Type 0
WritesWhatWasRead = (w : Word) (p : List ℕ) → path_of w ≡ Ok p → (is_path p ≡ true) × (w ≡ path_text p)

-- each path is read again from what it is written as
abbrev pub ReadsWhatIsWritten : Type 0
ReadsWhatIsWritten = (p : List ℕ) → is_path p ≡ true → path_of (path_text p) ≡ Ok p

-- paths that are the same are equal
abbrev pub SamePathIsEqual : Type 0
SamePathIsEqual = (p q : List ℕ) → same_path p q ≡ true → p ≡ q
