-- An index that is made at once of a list of values: they are put in the order of their flows, and two that have one flow are neighbours then.
use Rattle.std.proofs.Common.{◌≡◌, ℕ, zero, suc, ◌+◌, ◌<◌, ◌≤◌, T, true, false, not, Bool, ◌&&◌, ◌||◌, cond, List, [], ◌∷◌, length, map, get_or, Some, refl, sym, ap, subst, ◌∙◌, add-one, arith}
use Rattle.std.specs.declared.cmp.Ordering.{Ordering}
use Rattle.std.specs.declared.cmp.Ordering.TheVariants.{Less, Equal, Greater}
use Rattle.std.specs.Cmp.{IsTotalOrder}
use Rattle.std.specs.FinMap.{IsAntisymmetric, find, is_sorted}
use Rattle.std.specs.FinMap.Entries.{below_all, find_tied}
use Rattle.std.specs.List.{AllByRecursion, Contains, list_any}
use Rattle.std.specs.List.Sorted.{IsPermutation, IsSortedBy}
use Rattle.std.specs.Ordering.{ordering_reverse, eq_by_cmp, is_eq, is_lt}
use Rattle.std.proofs.lemmas.Bool.{and_parts}
use Rattle.std.proofs.lemmas.Cmp.{tied_itself}
use Rattle.std.proofs.lemmas.List.Recursion.{is_sum_by}
use Rattle.std.proofs.lemmas.List.Sorted.{IsPermutation-sym, Contains-permutation, sum_by-IsPermutation}
use Rattle.pf_map.specs.InOrder.{in_order}
use Rattle.pf_map.specs.Indexes.{no_flow_twice, IsIndex}
use Rattle.pf_map.proofs.Ordered.{sorted_of}
use Rattle.pf_map.proofs.Tests.{first_of, second_of, less_of, equal_of, same_entry}

not_true : (a : Bool) → not a ≡ true → a ≡ false
not_true true e = absurd (cc (e))
not_true false e = refl

none_true : (a b : Bool) → b ≡ false → (a && b) ≡ false
none_true true b e = e
none_true false b e = refl

pub few_turned : {A : Type 0} (before : A → A → Bool) (xs : List A) → length xs ≤ 1 → in_order before xs ≡ true
few_turned before [] le = refl
few_turned before (x ∷ []) le = refl
few_turned before (x ∷ y ∷ xs) le = absurd (omega (arith, le))

pub map_same : {A : Type 0} (xs : List A) → map (λ x. x) xs ≡ xs
map_same [] = refl
map_same (x ∷ xs) = ap (λ l. x ∷ l) (map_same xs)

-- ---- what stands in a list

here : {A : Type 0} (x y : A) (xs : List A) → x ≡ y → Contains (x ∷ xs) y
here x y xs is = (0, omega arith, is)

contains_more : {A : Type 0} (x y : A) (xs : List A) → Contains xs y → Contains (x ∷ xs) y
contains_more x y xs h = (suc h.0, omega (arith, h.1), h.2)

all_at : {A : Type 0} (P : A → Type 0) (xs : List A) → AllByRecursion P xs → (k : ℕ) (x : A) → k < length xs → get_or xs k x ≡ x → P x
all_at P [] all k x lt is = absurd (omega arith)
all_at P (y ∷ ys) all zero x lt is = subst P is all.0
all_at P (y ∷ ys) all (suc k) x lt is = all_at P ys all.1 k x (omega arith) is

all_in : {A B : Type 0} (f : A → B) (P : B → Type 0) (xs : List A) → AllByRecursion P (map f xs) → AllByRecursion (λ x. P (f x)) xs
all_in f P [] all = tt
all_in f P (x ∷ xs) all = (all.0, all_in f P xs all.1)

module _ {K X : Type 0} {R : K → K → Ordering} (o : IsTotalOrder R) where
  -- ---- each value is found at its key

  abbrev AllFound : List (K × X) → List (K × X) → Type 0
  AllFound es back = AllByRecursion (λ e. find R e.0 es ≡ Some e.1) back

  found_after : (x : K × X) (xs ys : List (K × X)) → T (below_all R x.0 ys) → AllFound xs ys → AllFound (x ∷ xs) ys
  found_after x xs [] below all = tt
  found_after x xs (y ∷ ys) below all =
      let apart : R y.0 x.0 ≡ Greater = o.antisymm y.0 x.0 ∙ ap ordering_reverse (less_of _ (first_of _ _ below)) in
      (ap (λ (r : Ordering). cond (is_eq r) (Some x.1) (find R y.0 xs)) apart ∙ all.0, found_after x xs ys (second_of _ _ below) all.1)

  all_found : (es : List (K × X)) → T (is_sorted R es) → AllFound es es
  all_found [] is = tt
  all_found (x ∷ xs) is =
      (ap (λ (r : Ordering). cond (is_eq r) (Some x.1) (find R x.0 xs)) (tied_itself o x.0), found_after x xs xs (first_of _ _ is) (all_found xs (second_of _ _ is)))

  found_in : IsAntisymmetric R → (es : List (K × X)) (k : K) (v : X) → find R k es ≡ Some v → Contains es (k, v)
  found_in same [] k v is = absurd (cc (is))
  found_in same (e ∷ es) k v is = by (eq_by_cmp R k e.0) refl is (λ found. found_in same es k v found) where
    by : (b : Bool) → eq_by_cmp R k e.0 ≡ b → cond b (Some e.1) (find R k es) ≡ Some v → (find R k es ≡ Some v → Contains es (k, v)) → Contains (e ∷ es) (k, v)
    by true tied found rest =
        let key : k ≡ e.0 = same k e.0 (equal_of _ tied) in
        let value : e.1 ≡ v = same_entry e.1 v found in
        here e (k, v) es (λ i. (sym key i, value i))
    by false tied found rest = contains_more e (k, v) es (rest found)

module _ {N F V : Type 0} {S : F → F → Ordering} (p : IsTotalOrder S) (flow : V → F) where
  abbrev with_flow : N × V → F × (N × V)
  with_flow e = (flow e.1, e)

  abbrev before : N × V → N × V → Bool
  before a b = is_lt (S (flow a.1) (flow b.1))

  abbrev tied : F → N × V → Bool
  tied f e = eq_by_cmp S f (flow e.1)

  -- ---- how many values have a flow

  abbrev count : F → List (N × V) → ℕ
  count f [] = 0
  count f (e ∷ es) = cond (tied f e) 1 0 + count f es

  some_count : (f : F) (es : List (N × V)) → list_any (tied f) es ≡ true → 1 ≤ count f es
  some_count f [] is = absurd (cc (is))
  some_count f (e ∷ es) is = by (tied f e) is (λ rest. some_count f es rest) where
    by : (b : Bool) → (b || list_any (tied f) es) ≡ true → (list_any (tied f) es ≡ true → 1 ≤ count f es) → 1 ≤ cond b 1 0 + count f es
    by true any rest = omega arith
    by false any rest = omega (arith, rest any)

  none_count : (f : F) (es : List (N × V)) → list_any (tied f) es ≡ false → count f es ≡ 0
  none_count f [] is = refl
  none_count f (e ∷ es) is = by (tied f e) is (λ rest. none_count f es rest) where
    by : (b : Bool) → (b || list_any (tied f) es) ≡ false → (list_any (tied f) es ≡ false → count f es ≡ 0) → cond b 1 0 + count f es ≡ 0
    by true none rest = absurd (cc (none))
    by false none rest = omega (arith, rest none)

  count_alike : (f g : F) → S f g ≡ Equal → (es : List (N × V)) → count f es ≡ count g es
  count_alike f g is [] = refl
  count_alike f g is (e ∷ es) =
      ap (λ (r : Ordering). cond (is_eq r) 1 0 + count f es) (p.congr f g (flow e.1) is) ∙ ap (λ (n : ℕ). cond (tied g e) 1 0 + n) (count_alike f g is es)

  at_most_once : (es : List (N × V)) → no_flow_twice S flow es ≡ true → (f : F) → count f es ≤ 1
  at_most_once [] is f = omega arith
  at_most_once (e ∷ es) is f =
      let parts = and_parts (not (list_any (tied (flow e.1)) es)) (no_flow_twice S flow es) is in
      by (not_true _ parts.0) (at_most_once es parts.1 f) (tied f e) refl where
        by : list_any (tied (flow e.1)) es ≡ false → count f es ≤ 1 → (b : Bool) → tied f e ≡ b → cond b 1 0 + count f es ≤ 1
        by alone rest true t = let none : count f es ≡ 0 = count_alike f (flow e.1) (equal_of _ t) es ∙ none_count (flow e.1) es alone in omega arith
        by alone rest false t = omega arith

  some_twice : (es : List (N × V)) → no_flow_twice S flow es ≡ false → (f : F) × (2 ≤ count f es)
  some_twice [] is = absurd (cc (is))
  some_twice (e ∷ es) is = by (list_any (tied (flow e.1)) es) refl is (λ rest. some_twice es rest) where
    by : (b : Bool) → list_any (tied (flow e.1)) es ≡ b → (not b && no_flow_twice S flow es) ≡ false → (no_flow_twice S flow es ≡ false → (f : F) × (2 ≤ count f es)) → (f : F) × (2 ≤ count f (e ∷ es))
    by true any twice rest =
        let some : 1 ≤ count (flow e.1) es = some_count (flow e.1) es any in
        (flow e.1, subst (λ (r : Ordering). 2 ≤ cond (is_eq r) 1 0 + count (flow e.1) es) (sym (tied_itself p (flow e.1))) (omega arith))
    by false none twice rest =
        let two = rest twice in
        let some : 2 ≤ count two.0 es = two.1 in
        (two.0, more (tied two.0 e) (count two.0 es) some) where
          more : (b : Bool) (n : ℕ) → 2 ≤ n → 2 ≤ cond b 1 0 + n
          more true n le = omega arith
          more false n le = omega arith

  -- whatever the order that they stand in
  pub same_twice : (es fs : List (N × V)) → IsPermutation es fs → no_flow_twice S flow fs ≡ no_flow_twice S flow es
  same_twice es fs moved = by (no_flow_twice S flow es) refl (no_flow_twice S flow fs) refl where
    counts : (f : F) → count f fs ≡ count f es
    counts f =
        let term : N × V → ℕ = λ e. cond (tied f e) 1 0 in
        is_sum_by (count f) term refl (λ _ _. refl) fs ∙ sum_by-IsPermutation term es fs moved ∙ sym (is_sum_by (count f) term refl (λ _ _. refl) es)

    never : (a b : List (N × V)) → ((f : F) → count f b ≡ count f a) → no_flow_twice S flow a ≡ true → no_flow_twice S flow b ≡ false → true ≡ false
    never a b same once twice =
        let two = some_twice b twice in
        let more : 2 ≤ count two.0 b = two.1 in
        let few : count two.0 a ≤ 1 = at_most_once a once two.0 in
        let one : count two.0 b ≡ count two.0 a = same two.0 in
        absurd (omega arith)

    by : (a : Bool) → no_flow_twice S flow es ≡ a → (b : Bool) → no_flow_twice S flow fs ≡ b → b ≡ a
    by true once true also = refl
    by false twice false also = refl
    by true once false twice = sym (never es fs counts once twice)
    by false twice true once = never fs es (λ f. sym (counts f)) once twice

  -- ---- in the order of flows

  turned : (fs : List (N × V)) → in_order (λ (x y : F × (N × V)). is_lt (S x.0 y.0)) (map with_flow fs) ≡ in_order before fs
  turned [] = refl
  turned (e ∷ []) = refl
  turned (e ∷ f ∷ fs) = ap (λ (b : Bool). before e f && b) (turned (f ∷ fs))

  pub flows_sorted : (fs : List (N × V)) → in_order before fs ≡ true → T (is_sorted S (map with_flow fs))
  flows_sorted fs is = sorted_of p (map with_flow fs) (turned fs ∙ is)

  none_alike : (f : F) (fs : List (N × V)) → T (below_all S f (map with_flow fs)) → list_any (tied f) fs ≡ false
  none_alike f [] below = refl
  none_alike f (e ∷ fs) below = ap (λ (r : Ordering). is_eq r || list_any (tied f) fs) (less_of _ (first_of _ _ below)) ∙ none_alike f fs (second_of _ _ below)

  once_each : (fs : List (N × V)) → T (is_sorted S (map with_flow fs)) → no_flow_twice S flow fs ≡ true
  once_each [] is = refl
  once_each (e ∷ fs) is = ap (λ (b : Bool). not b && no_flow_twice S flow fs) (none_alike (flow e.1) fs (first_of _ _ is)) ∙ once_each fs (second_of _ _ is)

  neither_less : (a b : N × V) → before a b ≡ false → before b a ≡ false → S (flow a.1) (flow b.1) ≡ Equal
  neither_less a b no_less no_more = by (S (flow a.1) (flow b.1)) refl where
    by : (r : Ordering) → S (flow a.1) (flow b.1) ≡ r → r ≡ Equal
    by Less is = let less : before a b ≡ true = ap is_lt is in absurd (cc (no_less, less))
    by Equal is = refl
    by Greater is = let more : before b a ≡ true = ap is_lt (p.antisymm (flow b.1) (flow a.1) ∙ ap ordering_reverse is) in absurd (cc (no_more, more))

  later_sorted : (e : N × V) (fs : List (N × V)) → IsSortedBy before (e ∷ fs) → IsSortedBy before fs
  later_sorted e fs up = λ k d low lt. rw add-one (rw add-one at (up (suc k) d (omega arith) (omega arith)))

  neighbours_tie : (fs : List (N × V)) → IsSortedBy before fs → in_order before fs ≡ false → no_flow_twice S flow fs ≡ false
  neighbours_tie [] up is = absurd (cc (is))
  neighbours_tie (e ∷ []) up is = absurd (cc (is))
  neighbours_tie (e ∷ f ∷ fs) up is = by (before e f) refl is (λ rest. neighbours_tie (f ∷ fs) (later_sorted e (f ∷ fs) up) rest) where
    by : (b : Bool) → before e f ≡ b → (b && in_order before (f ∷ fs)) ≡ false → (in_order before (f ∷ fs) ≡ false → no_flow_twice S flow (f ∷ fs) ≡ false) → no_flow_twice S flow (e ∷ f ∷ fs) ≡ false
    by true less turn rest = none_true (not (list_any (tied (flow e.1)) (f ∷ fs))) (no_flow_twice S flow (f ∷ fs)) (rest turn)
    by false not_less turn rest =
        let tie : S (flow e.1) (flow f.1) ≡ Equal = neither_less e f not_less (up 0 e (omega arith) (omega arith)) in
        ap (λ (r : Ordering). not (is_eq r || list_any (tied (flow e.1)) fs) && no_flow_twice S flow (f ∷ fs)) tie

  -- ---- what the list of values is, by the same values in the order of flows

  pub apart : (es fs : List (N × V)) → IsPermutation es fs → in_order before fs ≡ true → no_flow_twice S flow es ≡ true
  apart es fs moved is = sym (same_twice es fs moved) ∙ once_each fs (flows_sorted fs is)

  pub not_apart : (es fs : List (N × V)) → IsPermutation es fs → IsSortedBy before fs → in_order before fs ≡ false → no_flow_twice S flow es ≡ false
  not_apart es fs moved up is = sym (same_twice es fs moved) ∙ neighbours_tie fs up is

  -- ---- the two maps

  known_in : (fs : List (N × V)) (f : F) (e : N × V) → find S f (map with_flow fs) ≡ Some e → Contains fs e × (S f (flow e.1) ≡ Equal)
  known_in [] f e is = absurd (cc (is))
  known_in (g ∷ fs) f e is = by (tied f g) refl is (λ rest. known_in fs f e rest) where
    by : (b : Bool) → tied f g ≡ b → cond b (Some g) (find S f (map with_flow fs)) ≡ Some e → (find S f (map with_flow fs) ≡ Some e → Contains fs e × (S f (flow e.1) ≡ Equal)) → Contains (g ∷ fs) e × (S f (flow e.1) ≡ Equal)
    by true t found rest =
        let one : g ≡ e = same_entry g e found in
        (here g e fs one, ap (λ (x : N × V). S f (flow x.1)) (sym one) ∙ equal_of _ t)
    by false t found rest = let there = rest found in (contains_more g e fs there.0, there.1)

  pub index_of : {R : N → N → Ordering} → IsTotalOrder R → IsAntisymmetric R → (es fs : List (N × V)) → T (is_sorted R es) → IsPermutation es fs → T (is_sorted S (map with_flow fs)) → IsIndex R S flow es (map with_flow fs)
  index_of {R = R} o same es fs names moved flows = record {
    names = names;
    flows = flows;
    listed = λ n v found f is. listed n v f is (Contains-permutation es fs (n, v) moved (found_in o same es n v found));
    known = λ f e found. let there = known_in fs f e found in (named e (Contains-permutation fs es e (IsPermutation-sym es fs moved) there.0), there.1);
  } where
    named : (e : N × V) → Contains es e → find R e.0 es ≡ Some e.1
    named e there = all_at (λ x. find R x.0 es ≡ Some x.1) es (all_found o es names) there.0 e there.1 there.2

    listed : (n : N) (v : V) (f : F) → S f (flow v) ≡ Equal → Contains fs (n, v) → find S f (map with_flow fs) ≡ Some (n, v)
    listed n v f is there =
        let own : find S (flow v) (map with_flow fs) ≡ Some (n, v) =
        all_at (λ x. find S (flow x.1) (map with_flow fs) ≡ Some x) fs (all_in with_flow (λ x. find S x.0 (map with_flow fs) ≡ Some x.1) fs (all_found p (map with_flow fs) flows)) there.0 (n, v) there.1 there.2 in
        sym (find_tied S p f (flow v) is (map with_flow fs)) ∙ own
