-- Placed bytes against the text: what is left is the text without continued lines.
use Rattle.std.proofs.Common.{◌≡◌, ℕ, ◌==◌, Bool, true, false, List, [], ◌∷◌, ◌++◌, refl, ap, if◌then◌else◌}
use Rattle.std.proofs.lemmas.Bool.{eqb-true}
use Rattle.pf_tokens.specs.declared.{place.Place.Place, place.Placed.Placed}
use Rattle.pf_tokens.specs.{Places.{at, place_after, next_line, next_column}, Placed.{placed, pair_at, place_after_pair}, Laws.{located, end_of, uncontinued}}

-- what is placed is what is left of the bytes, and a newline
abbrev Left : Place → List ℕ → Type 0
Left p text = placed p text ≡ uncontinued (located p text) ++ at 10 (end_of p text) ∷ []

-- a backslash and the byte behind it, before others of which it is so
pair_is : (newline : Bool) (p : Place) (c : ℕ) (bs : List ℕ) → Left (if newline then next_line p else next_column (next_column p)) bs →
    (if newline then [] else (at 92 p ∷ at c (next_column p) ∷ [])) ++ placed (if newline then next_line p else next_column (next_column p)) bs
    ≡ (if newline then uncontinued (located (if newline then next_line (next_column p) else next_column (next_column p)) bs)
    else at 92 p ∷ at c (next_column p) ∷ uncontinued (located (if newline then next_line (next_column p) else next_column (next_column p)) bs))
    ++ at 10 (end_of (if newline then next_line (next_column p) else next_column (next_column p)) bs) ∷ []
pair_is true p c bs is = is
pair_is false p c bs is = ap (λ (cs : List Placed). at 92 p ∷ at c (next_column p) ∷ cs) is

-- two bytes before others, of which it is so, and of which it is so with the second
two_are : (pair : Bool) (p : Place) (b c : ℕ) (bs : List ℕ) → (b == 92) ≡ pair → Left (place_after_pair p c) bs → Left (place_after b p) (c ∷ bs) →
    (if pair then pair_at p c ++ placed (place_after_pair p c) bs else at b p ∷ placed (place_after b p) (c ∷ bs))
    ≡ (if pair then (if c == 10 then uncontinued (located (place_after c (place_after b p)) bs) else at b p ∷ at c (place_after b p) ∷ uncontinued (located (place_after c (place_after b p)) bs))
    else at b p ∷ uncontinued (at c (place_after b p) ∷ located (place_after c (place_after b p)) bs))
    ++ at 10 (end_of (place_after c (place_after b p)) bs) ∷ []
two_are true p b c bs is after_pair after_one =
    let b_is : b ≡ 92 = eqb-true b 92 is in
    rw b_is (pair_is (c == 10) p c bs after_pair)
two_are false p b c bs is after_pair after_one = ap (λ (cs : List Placed). at b p ∷ cs) after_one

pub placed_is : (p : Place) (text : List ℕ) → placed p text ≡ uncontinued (located p text) ++ at 10 (end_of p text) ∷ []
unfolding placed
placed_is p [] = refl
placed_is p (b ∷ []) = refl
placed_is p (b ∷ c ∷ bs) = two_are (b == 92) p b c bs refl (placed_is (place_after_pair p c) bs) (placed_is (place_after b p) (c ∷ bs))
