-- Paths within one another: which bytes the code compares, and that what is within a path is deeper.
use Rattle.std.proofs.{Common.{◌≡◌, ◌≢◌, ℕ, ◌+◌, ◌==◌, ◌<◌, ◌≤◌, Bool, true, false, cond, List, [], ◌∷◌, ◌++◌, length, take, drop, Some, None, Option, refl, sym, ap, subst, ◌∙◌, append_assoc, arith}, Math.Seq.{take-append_seam, drop-append_seam}, lemmas.Bool.Decides.nat_tests, lemmas.List.{take-append-drop, append_cancel_left, length-append}, lemmas.List.Sums.{sum_by-append, sum_by-cons}, lemmas.Slice.Eq.bytes_eq-Decides}
use Rattle.std.specs.{Prelude.{◌||◌, nat_lt, not, count_by, if◌then◌else◌}, List.list_any, Option.{is_none, option_or}}
use Rattle.pf_addr.specs.declared.path.limits.TheConstants.{PATH_LIMIT, DEPTH_LIMIT}
use Rattle.pf_form.specs.declared.form.fault.Kind.{Kind}
use Rattle.pf_addr.specs.{Path.Paths.{is_slash, components, first_fault, depth_fault, path_fault}, Path.Nested.{depth, front, within, path_within, is_single, is_child}, Path.References.{PlainReference, ending}, Path.ReferenceGrammar.IsReference, Laws.Path.Nested.{NoDeeper, LeadsDeeper, ChildHasOneMore, EachIsAChild}}
use Rattle.pf_addr.proofs.{PathTexts.count_components, PathsRead.{none_parts, none_of, names_found}}
use Rattle.std.proofs.lemmas.Bool.{and_parts}

-- ---- one component more

within_some : (p x : List ℕ) → (length p == 0) ≡ false → within p x ≡ p ++ 47 ∷ x
within_some [] x some = absurd (cc (some))
within_some (b ∷ bs) x some = append_assoc (b ∷ bs) (47 ∷ []) x

pub child_is : (p q x : List ℕ) → q ≡ within p x → is_child p q ≡ is_single x
child_is p q x is =
    let front_is : take (length (front p)) q ≡ front p = ap (take (length (front p))) is ∙ take-append_seam (front p) x in
    let rest_is : drop (length (front p)) q ≡ x = ap (drop (length (front p))) is ∙ drop-append_seam (front p) x in
    rw (rest_is, (bytes_eq-Decides (take (length (front p)) q) (front p)).1 front_is) refl

not_true : (b : Bool) → not b ≡ true → b ≡ false
not_true true h = absurd (cc (h))
not_true false h = refl

pub child_begins : (p q : List ℕ) → is_child p q ≡ true → q ≡ within p (drop (length (front p)) q)
child_begins p q is =
    sym (take-append-drop (length (front p)) q) ∙ ap (λ (a : List ℕ). a ++ drop (length (front p)) q) ((bytes_eq-Decides (take (length (front p)) q) (front p)).0 (and_parts _ _ is).0)

pub no_child : (p q : List ℕ) → ((x : List ℕ) → q ≢ within p x) → is_child p q ≡ false
no_child p q none = by (is_child p q) refl where
  by : (b : Bool) → is_child p q ≡ b → b ≡ false
  by false e = refl
  by true e = absurd (none (drop (length (front p)) q) (child_begins p q e))

-- as the code finds it: the path, a slash, and what comes after them
pub child_found : (p q rest x : List ℕ) → (length p == 0) ≡ false → q ≡ p ++ rest → rest ≡ 47 ∷ x → is_child p q ≡ is_single x
child_found p q rest x some begins slash = child_is p q x (begins ∙ ap (λ (r : List ℕ). p ++ r) slash ∙ sym (within_some p x some))

pub not_within : (p q : List ℕ) → (length p == 0) ≡ false → ((rest : List ℕ) → q ≢ p ++ rest) → is_child p q ≡ false
not_within p q some none = no_child p q (λ x is. none (47 ∷ x) (is ∙ within_some p x some))

pub no_slash_after : (p q rest : List ℕ) → (length p == 0) ≡ false → q ≡ p ++ rest → ((x : List ℕ) → rest ≢ 47 ∷ x) → is_child p q ≡ false
no_slash_after p q rest some begins none =
    no_child p q (λ x is. none x (append_cancel_left p rest (47 ∷ x) (sym begins ∙ is ∙ within_some p x some)))

-- ---- depth

some_depth : (w : List ℕ) → 0 < length w → depth w ≡ count_by is_slash w + 1
some_depth [] some = absurd (omega arith)
some_depth (b ∷ bs) some = count_components (b ∷ bs)

abbrev slashes : ℕ → ℕ
slashes b = cond (is_slash b) 1 0

none_left : (c : List ℕ) → list_any is_slash c ≡ false → count_by is_slash c ≡ 0
none_left [] none = refl
none_left (b ∷ bs) none = by (is_slash b) refl none (none_left bs) where
  by : (t : Bool) → is_slash b ≡ t → (t || list_any is_slash bs) ≡ false → (list_any is_slash bs ≡ false → count_by is_slash bs ≡ 0) → count_by is_slash (b ∷ bs) ≡ 0
  by true e h rest = absurd (cc (h))
  by false e h rest = sum_by-cons slashes b bs ∙ rw e (ap (λ (n : ℕ). 0 + n) (rest h))

count_within : (b : ℕ) (bs x : List ℕ) → count_by is_slash (within (b ∷ bs) x) ≡ count_by is_slash (b ∷ bs) + 1 + count_by is_slash x
count_within b bs x =
    sum_by-append slashes ((b ∷ bs) ++ 47 ∷ []) x ∙ ap (λ (n : ℕ). n + count_by is_slash x) (sum_by-append slashes (b ∷ bs) (47 ∷ []))

pub deeper : (p x : List ℕ) → 0 < length (within p x) → depth p < depth (within p x)
deeper [] x some = omega (arith, some_depth x some)
deeper (b ∷ bs) x some = omega (arith, count_within b bs x, some_depth (b ∷ bs) (omega arith), some_depth (within (b ∷ bs) x) some)

faultless_some : (w : List ℕ) → path_fault w ≡ None → 0 < length w
faultless_some [] none = absurd (cc (none))
faultless_some (b ∷ bs) none = omega arith

faultless_few : (w : List ℕ) → path_fault w ≡ None → depth w ≤ DEPTH_LIMIT
faultless_few [] none = omega arith
faultless_few (b ∷ bs) none =
    let tests : option_or (first_fault (components (b ∷ bs))) (depth_fault (length (components (b ∷ bs)))) ≡ None = grind (arith, nat_tests) in
    let few = (none_parts (first_fault (components (b ∷ bs))) (depth_fault (length (components (b ∷ bs)))) tests).1 in
    grind (arith, nat_tests)

pub path_few : NoDeeper
path_few [] is = omega arith
path_few (b ∷ bs) is = faultless_few (b ∷ bs) (none_of (path_fault (b ∷ bs)) is)

pub leads_deeper : LeadsDeeper
unfolding path_within
leads_deeper p names q is = by (path_fault (within p names)) refl is where
  by : (fault : Option Kind) → path_fault (within p names) ≡ fault → (if is_none fault then Some (within p names) else None) ≡ Some q → (depth p < depth q) × (depth q ≤ DEPTH_LIMIT)
  by None none e =
      let same : within p names ≡ q = cc in
      subst (λ (w : List ℕ). (depth p < depth w) × (depth w ≤ DEPTH_LIMIT)) same (deeper p names (faultless_some (within p names) none), faultless_few (within p names) none)
  by (Some k) none e = absurd (cc)

single_parts : (x : List ℕ) → is_single x ≡ true → (0 < length x) × (count_by is_slash x ≡ 0)
single_parts x is =
    let parts = and_parts (nat_lt 0 (length x)) (not (list_any is_slash x)) is in
    let some = parts.0 in
    (grind (arith, nat_tests), none_left x (not_true (list_any is_slash x) parts.1))

one_deeper : (p x : List ℕ) → is_single x ≡ true → depth (within p x) ≡ depth p + 1
one_deeper [] x is = let parts = single_parts x is in omega (arith, parts.0, parts.1, some_depth x parts.0)
one_deeper (b ∷ bs) x is =
    let parts = single_parts x is in
    omega (arith, parts.1, count_within b bs x, some_depth (b ∷ bs) (omega arith), some_depth (within (b ∷ bs) x) (omega arith))

pub has_one_more : ChildHasOneMore
has_one_more p q is =
    let begins = child_begins p q is in
    let single = (and_parts _ _ is).1 in
    (drop (length (front p)) q, (begins, single, ap depth begins ∙ one_deeper p _ single))

pub each_is_child : EachIsAChild
each_is_child p c is = child_is p (within p c) c refl ∙ is

-- ---- from the main ruleset

pub from_main : (r : PlainReference) → IsReference r → path_within [] r.names ≡ Some r.names
unfolding path_within
from_main r is =
    let short : length r.names ≤ PATH_LIMIT = omega (arith, is.short, length-append r.names (if r.wildcard then ending else [])) in
    rw (names_found PATH_LIMIT r.names r.names is.names short) refl
