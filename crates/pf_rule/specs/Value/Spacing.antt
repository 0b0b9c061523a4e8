-- Words with spaces between them.
use Rattle.std.proofs.{Common.{◌≡◌, ℕ, true, false, List, [], ◌∷◌, ◌++◌, length, refl, sym, ap, ◌∙◌, append_assoc, append-nil, arith}, lemmas.Bool.and_parts, lemmas.Bool.Decides.nat_tests, lemmas.List.Splits.{slice_split_none, slice_split_at}, lemmas.List.Sums.{AllPass-from_list_all, list_all-from_AllPass}, lemmas.List.Folds.list_all-append}
use Rattle.std.specs.{Prelude.{Bool, ◌&&◌, filter, nat_lt}, List.{join_with_byte, list_all, slice_index_or, All}}
use Rattle.pf_addr.specs.Writing.{Continues-then}
use Rattle.pf_form.specs.Form.Words.{Word, is_blank, words_of}

-- words with a space before each
abbrev pub spaced : List Word → List ℕ
spaced ws = join_with_byte 32 ([] ∷ ws)

pub first_spaced : (w : Word) (ws : List Word) → join_with_byte 32 (w ∷ ws) ≡ w ++ spaced ws
first_spaced w [] = sym (append-nil w)
first_spaced w (v ∷ vs) = refl

pub spaced-append : (a b : List Word) → spaced (a ++ b) ≡ spaced a ++ spaced b
spaced-append [] b = refl
spaced-append (w ∷ ws) b = ap (λ (t : List ℕ). 32 ∷ t) (first_spaced w (ws ++ b) ∙ ap (λ (t : List ℕ). w ++ t) (spaced-append ws b) ∙ sym
    (append_assoc w (spaced ws) (spaced b)) ∙ ap (λ (t : List ℕ). t ++ spaced b) (sym (first_spaced w ws)))

-- one part written after another
pub ruleset continuing = (Continues-then)

-- ---- and back

-- at least one byte, each above a space
abbrev pub is_word : Word → Bool
is_word w = nat_lt 0 (length w) && list_all (nat_lt 32) w

not_blank : (b : ℕ) → nat_lt 32 b ≡ true → is_blank b ≡ false
not_blank b e = grind (arith, nat_tests)

no_control : (b : ℕ) → nat_lt 32 b ≡ true → nat_lt 31 b ≡ true
no_control b e = grind (arith, nat_tests)

parts : (w : Word) → is_word w ≡ true → (nat_lt 0 (length w) ≡ true) × All (λ b. is_blank b ≡ false) w × (list_all (nat_lt 31) w ≡ true)
parts w is =
    let both = and_parts (nat_lt 0 (length w)) (list_all (nat_lt 32) w) is in
    let each = AllPass-from_list_all (nat_lt 32) w both.1 in (
      both.0,
      (λ k d lt. not_blank (slice_index_or w k d) (each k d lt)),
      list_all-from_AllPass (nat_lt 31) w (λ k d lt. no_control (slice_index_or w k d) (each k d lt)),
    )

pub words_of-join : (ws : List Word) → list_all is_word ws ≡ true → words_of (join_with_byte 32 ws) ≡ ws
words_of-join [] all = refl
words_of-join (w ∷ []) all = let is = parts w (and_parts (is_word w) true all).0 in
    ap (filter (λ v. nat_lt 0 (length v))) (slice_split_none is_blank w is.1) ∙ rw is.0 refl
words_of-join (w ∷ v ∷ vs) all =
    let both = and_parts (is_word w) (list_all is_word (v ∷ vs)) all in
    let is = parts w both.0 in
    ap (filter (λ v. nat_lt 0 (length v))) (slice_split_at is_blank w 32 (join_with_byte 32 (v ∷ vs)) is.1 refl) ∙ rw is.0
    (ap (λ (t : List Word). w ∷ t) (words_of-join (v ∷ vs) both.1))

-- a text of words between spaces has no byte below a space
pub join_bytes : (ws : List Word) → list_all is_word ws ≡ true → list_all (nat_lt 31) (join_with_byte 32 ws) ≡ true
join_bytes [] all = refl
join_bytes (w ∷ []) all = (parts w (and_parts (is_word w) true all).0).2
join_bytes (w ∷ v ∷ vs) all =
    let both = and_parts (is_word w) (list_all is_word (v ∷ vs)) all in
    rw (list_all-append, (parts w both.0).2, join_bytes (v ∷ vs) both.1) refl
