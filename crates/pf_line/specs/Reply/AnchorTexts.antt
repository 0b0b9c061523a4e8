-- The text of anchors, as pfctl(8) shows them by -s Anchors: the path of each on a line. Behind them comes how many there are.
use Rattle.std.specs.Prelude.{ℕ, List, [], ◌∷◌, ◌++◌, length, codes, decimal}
use Rattle.pf_line.specs.Reply.TextLines.{lines_text}

abbrev pub anchors_text : List (List ℕ) → List ℕ
anchors_text paths = lines_text paths ++ (codes "end " ++ decimal (length paths) ++ 10 ∷ [])
