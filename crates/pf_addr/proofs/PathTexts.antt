-- The components of a text, as the reader finds them: up to the first slash, and after it.
use Rattle.std.proofs.{Common.{◌≡◌, ℕ, ◌+◌, ◌-◌, ◌<◌, ◌≤◌, Bool, true, false, List, [], ◌∷◌, length, take, drop, Some, None, Option, refl, sym, ap, subst, ◌∙◌, arith}, lemmas.List.take_rest, lemmas.Bool.Decides.nat_tests, lemmas.List.Splits.{length-slice_split, slice_split_first, slice_split_none}, lemmas.List.Sums.{prefix_len-le-length, fails_before_first}, lemmas.Map.Text.is_eq-slice_cmp, lemmas.Slice.Eq.bytes_eq-Decides}
use Rattle.std.specs.{Prelude.{◌≢◌, count_by, slice_index}, List.{position, position_or_len, All}, Option.option_or, Str.bytes_eq}
use Rattle.pf_form.specs.declared.form.fault.Kind.{Kind}
use Rattle.pf_addr.specs.Path.Paths.{is_slash, components, component_fault, first_fault, same_path}

-- ---- cut at the first slash

first_some : (w : List ℕ) (i : ℕ) → position is_slash w ≡ Some i → (position_or_len is_slash w < length w) × (position_or_len is_slash w ≡ i)
first_some w i e = grind (arith, nat_tests)

first_none : (w : List ℕ) → position is_slash w ≡ None → All (λ b. is_slash b ≡ false) w
first_none w e =
    let end : length w ≤ position_or_len is_slash w = grind (arith, nat_tests, prefix_len-le-length) in
    λ k d lt. fails_before_first is_slash w k d (omega arith)

split_some : (w : List ℕ) (i : ℕ) → position is_slash w ≡ Some i → components w ≡ take i w ∷ components (drop (i + 1) w)
split_some w i e =
    let at = first_some w i e in
    subst (λ (k : ℕ). components w ≡ take k w ∷ components (drop (k + 1) w)) at.1 (slice_split_first is_slash w 0 at.0)

split_none : (w : List ℕ) → position is_slash w ≡ None → components w ≡ w ∷ []
split_none w e = slice_split_none is_slash w (first_none w e)

-- ---- faults

pub count_components : (w : List ℕ) → length (components w) ≡ count_by is_slash w + 1
count_components w = length-slice_split is_slash w

none_else : (o : Option Kind) → option_or o None ≡ o
none_else (Some k) = refl
none_else None = refl

-- the fault of a text with a slash: that of its first component, or else that of the rest, as the code computes it
pub fault_some : (w : List ℕ) (i : ℕ) (o : Option Kind) → position is_slash w ≡ Some i → component_fault (take i w) ≡ o → first_fault (components w) ≡ option_or o (first_fault (components (take (length w - (i + 1)) (drop (i + 1) w))))
fault_some w i o e f =
    ap first_fault (split_some w i e)
    ∙ ap (λ (p : Option Kind). option_or p (first_fault (components (drop (i + 1) w)))) f
    ∙ ap (λ (rest : List ℕ). option_or o (first_fault (components rest))) (sym (take_rest w (i + 1)))

pub fault_none : (w : List ℕ) → position is_slash w ≡ None → first_fault (components w) ≡ component_fault w
fault_none w e = ap first_fault (split_none w e) ∙ none_else (component_fault w)

-- ---- one path

-- paths that have the same bytes are the same
pub same_bytes : (p q : List ℕ) → bytes_eq p q ≡ same_path p q
same_bytes p q = sym (is_eq-slice_cmp p q)

-- ---- names that differ in their last byte

pub last_differs : (p q : List ℕ) → slice_index p (length p - 1) ≢ slice_index q (length q - 1) → bytes_eq p q ≡ false
last_differs p q other = by (bytes_eq p q) refl where
  by : (t : Bool) → bytes_eq p q ≡ t → t ≡ false
  by false e = refl
  by true e = absurd (other (ap (λ (w : List ℕ). slice_index w (length w - 1)) ((bytes_eq-Decides p q).0 e)))
