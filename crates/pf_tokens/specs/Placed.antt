-- Continued lines (pf.conf(5): "Lines can be split with a backslash"): what stands before any token is taken.
use Rattle.std.specs.Prelude.{ℕ, ◌==◌, List, [], ◌∷◌, ◌++◌, if◌then◌else◌}
use Rattle.pf_tokens.specs.declared.{place.Place.Place, place.Placed.Placed}
use Rattle.pf_tokens.specs.Places.{at, next_line, next_column, place_after}

-- what is left of a backslash and the byte behind it, and where the next one stands
abbrev pub pair_at : Place → ℕ → List Placed
pair_at p c = if c == 10 then [] else (at 92 p ∷ at c (next_column p) ∷ [])

abbrev pub place_after_pair : Place → ℕ → Place
place_after_pair p c = if c == 10 then next_line p else next_column (next_column p)

-- The bytes of a text that begins at this place. Backslashes are read in pairs with the bytes behind them. The end counts as a newline.
unfoldable pub placed : Place → List ℕ → List Placed
placed p [] = at 10 p ∷ []
placed p (b ∷ []) = at b p ∷ at 10 (place_after b p) ∷ []
placed p (b ∷ c ∷ bs) =
    if b == 92 then pair_at p c ++ placed (place_after_pair p c) bs else at b p ∷ placed (place_after b p) (c ∷ bs)
