-- The product of lists, each of whose items is words (pf.conf(5), "Lists").
use Rattle.std.specs.{Prelude.{ℕ, ◌*◌, ◌/◌, ◌%◌, List, [], ◌∷◌, ◌++◌, map, length, slice_index_or}, List.flat_map}

abbrev pub Word : Type 0
Word = List ℕ

-- the words of each way of taking one item of each list; the last list turns fastest
unfoldable pub spelled : List (List (List Word)) → List (List Word)
spelled [] = [] ∷ []
spelled (items ∷ lists) = flat_map (λ (item : List Word). map (λ (ws : List Word). item ++ ws) (spelled lists)) items

-- how many ways there are
unfoldable pub count : List (List (List Word)) → ℕ
count [] = 1
count (items ∷ lists) = length items * count lists

-- The words of the way with this number. Its digits in mixed radix are the places of the items: the first list's is worth as much as the
-- other lists have ways.
unfoldable pub numbered : List (List (List Word)) → ℕ → List Word
numbered [] n = []
numbered (items ∷ lists) n = slice_index_or items (n / count lists) [] ++ numbered lists (n % count lists)
