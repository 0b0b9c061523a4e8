-- Paths with one parent: where the parent's front ends, and which paths it is the front of.
use Rattle.std.proofs.{Common.{◌≡◌, ◌≢◌, ℕ, zero, suc, ◌+◌, ◌-◌, ◌<◌, ◌≤◌, Bool, true, false, cond, not, List, [], ◌∷◌, ◌++◌, length, take, drop, get_or, refl, sym, ap, ◌∙◌, arith}, Math.Seq.{take-append_seam, get_or-append_right, get_or-append_seam}, lemmas.{Bool.and_parts, List.{get_or_append_left, length-append}, List.Folds.list_any_at, List.Splits.length-slice_split, List.Sums.{sum_by-append, sum_by-cons}}}
use Rattle.std.specs.{Prelude.{◌||◌, nat_lt, count_by}, List.list_any}
use Rattle.pf_addr.specs.declared.path.limits.TheConstants.{DEPTH_LIMIT}
use Rattle.pf_addr.specs.{Path.Paths.{is_slash, is_path}, Path.Nested.{depth, front, within, is_single, is_child}}
use Rattle.pf_addr.proofs.{Nesting.{path_few as path_few_of, child_is, child_begins, no_child}}

-- ---- depth

pub path_few : (p : List ℕ) → is_path p ≡ true → depth p ≤ DEPTH_LIMIT
path_few p is = path_few_of p is

pub slashes_counted : (w : List ℕ) → 0 < length w → depth w ≡ count_by is_slash w + 1
slashes_counted [] some = absurd (omega arith)
slashes_counted (b ∷ bs) some = length-slice_split is_slash (b ∷ bs)

abbrev slashes : ℕ → ℕ
slashes b = cond (is_slash b) 1 0

none_counted : (c : List ℕ) → count_by is_slash c ≡ 0 → list_any is_slash c ≡ false
none_counted [] none = refl
none_counted (b ∷ bs) none = by (is_slash b) refl (sym (sum_by-cons slashes b bs) ∙ none) (none_counted bs) where
  by : (t : Bool) → is_slash b ≡ t → slashes b + count_by is_slash bs ≡ 0 → (count_by is_slash bs ≡ 0 → list_any is_slash bs ≡ false) → (is_slash b || list_any is_slash bs) ≡ false
  by true e h rest = let one : slashes b ≡ 1 = rw e refl in absurd (omega (arith, h, one))
  by false e h rest = let none : slashes b ≡ 0 = rw e refl in rw e (rest (omega (arith, h, none)))

-- what is one deeper than a path within which it is has one component more
pub single_left : (p x : List ℕ) → 0 < length x → depth (within p x) ≡ depth p + 1 → list_any is_slash x ≡ false
single_left [] x some is = none_counted x (omega (arith, is, slashes_counted x some))
single_left (b ∷ bs) x some is =
    let counted : count_by is_slash (within (b ∷ bs) x) ≡ count_by is_slash (b ∷ bs) + 1 + count_by is_slash x =
    sum_by-append slashes ((b ∷ bs) ++ 47 ∷ []) x ∙ ap (λ (n : ℕ). n + count_by is_slash x) (sum_by-append slashes (b ∷ bs) (47 ∷ [])) in
    none_counted x (omega (arith, is, counted, slashes_counted (b ∷ bs) (omega arith), slashes_counted (within (b ∷ bs) x) (omega arith)))

-- ---- the front of a path's parent

no_slash_in : (x : List ℕ) → is_single x ≡ true → list_any is_slash x ≡ false
no_slash_in x is = by (list_any is_slash x) (and_parts (nat_lt 0 (length x)) (not (list_any is_slash x)) is).1 where
  by : (b : Bool) → not b ≡ true → b ≡ false
  by true h = absurd (cc (h))
  by false h = refl

slash_is : (n : ℕ) → n ≡ 47 → is_slash n ≡ true
slash_is n is = ap is_slash is

-- where the last slash of a path stands, and a slash at the end of what comes before a component
module _ (a x w : List ℕ) (start : ℕ) (is : w ≡ a ++ x) (single : list_any is_slash x ≡ false) (slash : 0 < start → get_or w (start - 1) 0 ≡ 47) (none : (k : ℕ) → start ≤ k → k < length w → get_or w k 0 ≢ 47) (few : start ≤ length w) where
  not_after : length a < start → {A : Type 0} → A
  not_after lt =
      let some : 0 < start = omega (arith, lt) in
      let long : length w ≡ length a + length x = ap length is ∙ length-append a x in
      let at : get_or x (start - 1 - length a) 0 ≡ 47 = sym (ap (λ (v : List ℕ). get_or v (start - 1) 0) is ∙ get_or-append_right a x (start - 1) 0 (omega (arith, lt))) ∙ slash some in
      absurd (cc (sym single ∙ list_any_at is_slash x (start - 1 - length a) 0 (omega (arith, lt, few, long)) (slash_is _ at)))

  not_before : (b : List ℕ) → a ≡ b ++ 47 ∷ [] → start < length a → {A : Type 0} → A
  not_before b ends lt =
      let long : length w ≡ length a + length x = ap length is ∙ length-append a x in
      let more : length a ≡ length b + 1 = ap length ends ∙ length-append b (47 ∷ []) in
      let at : get_or w (length b) 0 ≡ 47 =
      ap (λ (v : List ℕ). get_or v (length b) 0) is ∙ get_or_append_left a x 0 (length b) (omega (arith, more)) ∙ ap (λ (v : List ℕ). get_or v (length b) 0) ends ∙ get_or-append_seam b 47 [] 0 in
      absurd (none (length b) (omega (arith, lt, more)) (omega (arith, long, more)) at)

start_is : (p x w : List ℕ) (start : ℕ) → w ≡ within p x → list_any is_slash x ≡ false → (0 < start → get_or w (start - 1) 0 ≡ 47) → ((k : ℕ) → start ≤ k → k < length w → get_or w k 0 ≢ 47) → start ≤ length w → start ≡ length (front p)
start_is [] x w start is single slash none few = by start refl where
  by : (n : ℕ) → start ≡ n → start ≡ 0
  by zero at = at
  by (suc n) at = not_after [] x w start is single slash none few (omega (arith, at))
start_is (b ∷ bs) x w start is single slash none few =
    let low : (start < length (front (b ∷ bs))) → ⊥ = λ lt. not_before ((b ∷ bs) ++ 47 ∷ []) x w start is single slash none few (b ∷ bs) refl lt in
    let high : (length (front (b ∷ bs)) < start) → ⊥ = λ lt. not_after ((b ∷ bs) ++ 47 ∷ []) x w start is single slash none few lt in
    omega (arith, low, high)

pub front_is : (p w : List ℕ) (start : ℕ) → is_child p w ≡ true → (0 < start → get_or w (start - 1) 0 ≡ 47) → ((k : ℕ) → start ≤ k → k < length w → get_or w k 0 ≢ 47) → start ≤ length w → take start w ≡ front p
front_is p w start is slash none few =
    let begins = child_begins p w is in
    let x = drop (length (front p)) w in
    let single = no_slash_in x (and_parts _ _ is).1 in
    ap (λ (n : ℕ). take n w) (start_is p x w start begins single slash none few) ∙ ap (take (length (front p))) begins ∙ take-append_seam (front p) x

pub sibling_is : (p a other rest : List ℕ) → a ≡ front p → other ≡ a ++ rest → is_child p other ≡ is_single rest
sibling_is p a other rest is begins = child_is p other rest (begins ∙ ap (λ (v : List ℕ). v ++ rest) is)

pub no_sibling : (p a other : List ℕ) → a ≡ front p → ((rest : List ℕ) → other ≢ a ++ rest) → is_child p other ≡ false
no_sibling p a other is none = no_child p other (λ x h. none x (h ∙ ap (λ (v : List ℕ). v ++ x) (sym is)))
