-- Words, and the words of a line: what is between blanks.
use Rattle.std.specs.{Prelude.{ℕ, ◌==◌, ◌||◌, nat_lt, Bool, List, length, filter, map}, List.slice_split}
use denote.Ref.{Bor}

abbrev pub Word : Type 0
Word = List ℕ

-- a space, a tab or a carriage return
abbrev pub is_blank : ℕ → Bool
is_blank b = (b == 32) || (b == 9) || (b == 13)

abbrev pub words_of : List ℕ → List Word
words_of line = filter (λ w. nat_lt 0 (length w)) (slice_split is_blank line)

-- the words that a slice of slices has
abbrev pub texts : List (Bor Word) → List Word
texts = map (λ w. w.now)
