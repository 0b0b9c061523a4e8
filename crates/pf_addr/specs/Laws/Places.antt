-- Laws of the first byte that passes a test, and of a text cut there.
use Rattle.std.proofs.{Common.{◌≡◌, ℕ, ◌+◌, ◌<◌, ◌≤◌, ◌==◌, Bool, true, false, List, [], ◌∷◌, ◌++◌, length, take, drop, Some, None, refl, ap, ◌∙◌, subst, arith, get_or}, lemmas.Bool.Decides.nat_tests, lemmas.List.{length-append, get_or_append_left, get_or_at}, lemmas.List.Elements.All-from_get_or, lemmas.List.Splits.{slice_split_first, slice_split_none}, lemmas.List.Sums.{prefix_len-le-length, position_or_len_is, split_at_first, fails_before_first, passes_at_first}, lemmas.Str.Parse.digit_at}
use Rattle.std.specs.{List.{position, position_or_len, slice_split, All}, Str.Parse.AllDigits}

first_some : (p : ℕ → Bool) (text : List ℕ) (i : ℕ) → position p text ≡ Some i → (position_or_len p text < length text) × (position_or_len p text ≡ i)
first_some p text i e = grind (arith, nat_tests)

pub first_none : (p : ℕ → Bool) (text : List ℕ) → position p text ≡ None → All (λ b. p b ≡ false) text
first_none p text e =
    let end : length text ≤ position_or_len p text = grind (arith, nat_tests, prefix_len-le-length) in
    λ k d lt. fails_before_first p text k d (omega arith)

pub split_some : (p : ℕ → Bool) (text : List ℕ) (i : ℕ) → position p text ≡ Some i → slice_split p text ≡ take i text ∷ slice_split p (drop (i + 1) text)
split_some p text i e =
    let at = first_some p text i e in
    subst (λ (k : ℕ). slice_split p text ≡ take k text ∷ slice_split p (drop (k + 1) text)) at.1 (slice_split_first p text 0 at.0)

pub split_none : (p : ℕ → Bool) (text : List ℕ) → position p text ≡ None → slice_split p text ≡ text ∷ []
split_none p text e = slice_split_none p text (first_none p text e)

-- a text is what comes before the byte's first place, the byte, and what comes after it
pub cut_there : (c : ℕ) (text : List ℕ) (i : ℕ) → position (λ b. b == c) text ≡ Some i → text ≡ take i text ++ c ∷ drop (i + 1) text
cut_there c text i e =
    let at = first_some (λ b. b == c) text i e in
    let place : ℕ = position_or_len (λ b. b == c) text in
    let passes = passes_at_first (λ b. b == c) text 0 at.0 in
    let byte : get_or text place 0 ≡ c = grind (arith, nat_tests) in
    subst (λ (k : ℕ). text ≡ take k text ++ c ∷ drop (k + 1) text) at.1 (split_at_first (λ b. b == c) text 0 at.0 ∙ ap (λ (b : ℕ). take place text ++ b ∷ drop (place + 1) text) byte)

-- ---- a byte that isn't in a text

abbrev pub without : ℕ → List ℕ → Type 0
without c = All (λ b. (b == c) ≡ false)

pub digits_without : (c : ℕ) (text : List ℕ) → c < 48 → AllDigits 10 text → without c text
digits_without c text lt ds = All-from_get_or (λ b. (b == c) ≡ false) text 0 (λ i le. let d = digit_at text i ds le in grind (arith, nat_tests))

pub none_first : (p : ℕ → Bool) (text : List ℕ) → All (λ b. p b ≡ false) text → position p text ≡ None
none_first p text none =
    let at : position_or_len p text ≡ length text = position_or_len_is p text (length text) 0 (omega arith) (λ k lt. none k 0 lt) (λ lt. absurd (omega arith)) in
    grind (arith, nat_tests)

pub no_place : (c : ℕ) (text : List ℕ) → without c text → position (λ b. b == c) text ≡ None
no_place c text none = none_first (λ b. b == c) text none

pub place_after : (c : ℕ) (front following : List ℕ) → without c front → position (λ b. b == c) (front ++ c ∷ following) ≡ Some (length front)
place_after c front following none =
    let size : length front < length (front ++ c ∷ following) = omega (arith, length-append front (c ∷ following)) in
    let same : (c == c) ≡ true = grind (arith, nat_tests) in
    let at : position_or_len (λ b. b == c) (front ++ c ∷ following) ≡ length front = position_or_len_is (λ b. b == c) (front ++ c ∷ following) (length front) 0 (omega arith) (λ k lt. rw (get_or_append_left front (c ∷ following) 0 k lt) (none k 0 lt)) (λ lt. rw (get_or_at front c following 0 (length front) refl) same) in
    grind (arith, nat_tests)
