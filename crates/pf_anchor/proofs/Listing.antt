-- The rulesets of a map, one depth after the other.
use Rattle.std.proofs.{Common.{◌≡◌, ◌≢◌, ℕ, zero, suc, ◌<◌, ◌≤◌, ◌+◌, ◌==◌, T, Bool, true, false, cond, List, [], ◌∷◌, ◌++◌, length, take, refl, sym, ap, subst, ◌∙◌, arith, length-append}, lemmas.{Cmp.{tied_itself, nat_cmp_total}, Bool.Decides.nat_tests, List.{append-nil, length-map, length-take-le}, List.Elements.filter-append}}
use Rattle.std.specs.{Prelude.{filter, nat_lt}, declared.{cmp.Ordering.Ordering, cmp.Ordering.TheVariants.Less}, Ordering.{is_lt, nat_cmp, ordering_then}, FinMap.{is_sorted, Entries.below_all}}
use Rattle.pf_key.specs.Keys.{numbers_rise}
use Rattle.pf_addr.specs.declared.path.limits.TheConstants.{DEPTH_LIMIT}
use Rattle.pf_addr.specs.{Path.Paths.path_order, Path.Nested.depth}
use Rattle.pf_map.proofs.Tests.{both_of, first_of, second_of, less_of}
use Rattle.pf_anchor.specs.{Rulesets.PlainPlaced, Known.{PlainKnown, depth_order, at_depth, above_depth, placed_of, IsListing}}

keeps : (P : PlainPlaced → Bool) (x : PlainPlaced) (c : List PlainPlaced) → P x ≡ true → filter P (x ∷ c) ≡ x ∷ filter P c
keeps P x c is = ap (λ (b : Bool). cond b (x ∷ filter P c) (filter P c)) is

skips : (P : PlainPlaced → Bool) (x : PlainPlaced) (c : List PlainPlaced) → P x ≡ false → filter P (x ∷ c) ≡ filter P c
skips P x c is = ap (λ (b : Bool). cond b (x ∷ filter P c) (filter P c)) is

-- ---- what a test at one depth keeps

module _ (test : List ℕ → Bool) (d : ℕ) (at : (q : List ℕ) → test q ≡ true → depth q ≡ d) where
  abbrev tests : PlainPlaced → Bool
  tests e = test e.0

  own_depth : (c : List PlainPlaced) → filter tests (at_depth d c) ≡ filter tests c
  own_depth [] = refl
  own_depth (x ∷ c) = by (test x.0) (depth x.0 == d) refl refl (own_depth c) where
    by : (b e : Bool) → test x.0 ≡ b → (depth x.0 == d) ≡ e → filter tests (at_depth d c) ≡ filter tests c → filter tests (at_depth d (x ∷ c)) ≡ filter tests (x ∷ c)
    by true true is same rest = ap (filter tests) (keeps (λ y. depth y.0 == d) x c same) ∙ keeps tests x (at_depth d c) is ∙ ap (λ (xs : List PlainPlaced). x ∷ xs) rest ∙ sym (keeps tests x c is)
    by true false is same rest = let deep = at x.0 is in absurd (grind (arith, nat_tests))
    by false true is same rest = ap (filter tests) (keeps (λ y. depth y.0 == d) x c same) ∙ skips tests x (at_depth d c) is ∙ rest ∙ sym (skips tests x c is)
    by false false is same rest = ap (filter tests) (skips (λ y. depth y.0 == d) x c same) ∙ rest ∙ sym (skips tests x c is)

  other_depth : (n : ℕ) → n ≢ d → (c : List PlainPlaced) → filter tests (at_depth n c) ≡ []
  other_depth n other [] = refl
  other_depth n other (x ∷ c) = by (test x.0) (depth x.0 == n) refl refl (other_depth n other c) where
    by : (b e : Bool) → test x.0 ≡ b → (depth x.0 == n) ≡ e → filter tests (at_depth n c) ≡ [] → filter tests (at_depth n (x ∷ c)) ≡ []
    by b false is same rest = ap (filter tests) (skips (λ y. depth y.0 == n) x c same) ∙ rest
    by false true is same rest = ap (filter tests) (keeps (λ y. depth y.0 == n) x c same) ∙ skips tests x (at_depth n c) is ∙ rest
    by true true is same rest = let deep = at x.0 is in absurd (grind (arith, nat_tests))

  none_above : (n : ℕ) → n ≤ d → (c : List PlainPlaced) → filter tests (above_depth n c) ≡ []
  unfolding above_depth
  none_above zero le c = refl
  none_above (suc n) le c =
      filter-append tests (above_depth n c) (at_depth n c) ∙ ap (λ (xs : List PlainPlaced). xs ++ filter tests (at_depth n c)) (none_above n (omega (arith, le)) c)
      ∙ other_depth n (λ same. omega (arith, le, same)) c

  pub all_above : (n : ℕ) → d < n → (c : List PlainPlaced) → filter tests (above_depth n c) ≡ filter tests c
  unfolding above_depth
  all_above zero lt c = absurd (omega (arith, lt))
  all_above (suc n) lt c = by (n == d) refl (λ less. all_above n less c) where
    by : (e : Bool) → (n == d) ≡ e → (d < n → filter tests (above_depth n c) ≡ filter tests c) → filter tests (above_depth n c ++ at_depth n c) ≡ filter tests c
    by true same rest =
        let equal : n ≡ d = grind (arith, nat_tests) in
        filter-append tests (above_depth n c) (at_depth n c) ∙ ap (λ (xs : List PlainPlaced). xs ++ filter tests (at_depth n c)) (none_above n (omega (arith, equal)) c)
        ∙ ap (λ (m : ℕ). filter tests (at_depth m c)) equal ∙ own_depth c
    by false same rest =
        let other : n ≢ d = grind (arith, nat_tests) in
        filter-append tests (above_depth n c) (at_depth n c) ∙ ap (λ (xs : List PlainPlaced). filter tests (above_depth n c) ++ xs) (other_depth n other c)
        ∙ append-nil (filter tests (above_depth n c)) ∙ rest (omega (arith, lt, other))

-- ---- in order

-- each is of less than a depth
abbrev AreAbove : ℕ → List PlainPlaced → Type 0
AreAbove n [] = Unit {0}
AreAbove n (x ∷ xs) = (depth x.0 < n) × AreAbove n xs

-- each is of a depth
abbrev AreAt : ℕ → List PlainPlaced → Type 0
AreAt n [] = Unit {0}
AreAt n (x ∷ xs) = (depth x.0 ≡ n) × AreAt n xs

at_is_at : (n : ℕ) (c : List PlainPlaced) → AreAt n (at_depth n c)
at_is_at n [] = tt
at_is_at n (x ∷ c) = by (depth x.0 == n) refl (at_is_at n c) where
  by : (e : Bool) → (depth x.0 == n) ≡ e → AreAt n (at_depth n c) → AreAt n (cond e (x ∷ at_depth n c) (at_depth n c))
  by true same rest = let is : depth x.0 ≡ n = grind (arith, nat_tests) in (is, rest)
  by false same rest = rest

at_above : (n : ℕ) (xs : List PlainPlaced) → AreAt n xs → AreAbove (suc n) xs
at_above n [] all = tt
at_above n (x ∷ xs) all = let is = all.0 in (omega (arith, is), at_above n xs all.1)

above_more : (n : ℕ) (xs : List PlainPlaced) → AreAbove n xs → AreAbove (suc n) xs
above_more n [] all = tt
above_more n (x ∷ xs) all = let lt = all.0 in (omega (arith, lt), above_more n xs all.1)

above_append : (n : ℕ) (xs ys : List PlainPlaced) → AreAbove n xs → AreAbove n ys → AreAbove n (xs ++ ys)
above_append n [] ys left right = right
above_append n (x ∷ xs) ys left right = (left.0, above_append n xs ys left.1 right)

above_is_above : (n : ℕ) (c : List PlainPlaced) → AreAbove n (above_depth n c)
unfolding above_depth
above_is_above zero c = tt
above_is_above (suc n) c = above_append (suc n) (above_depth n c) (at_depth n c) (above_more n (above_depth n c) (above_is_above n c)) (at_above n (at_depth n c) (at_is_at n c))

lt_of : (o : Ordering) → o ≡ Less → T (is_lt o)
lt_of o is = subst (λ (p : Ordering). T (is_lt p)) (sym is) tt

below_append : (q : List ℕ) (xs ys : List PlainPlaced) → T (below_all depth_order q xs) → T (below_all depth_order q ys) → T (below_all depth_order q (xs ++ ys))
below_append q [] ys left right = right
below_append q (x ∷ xs) ys left right = both_of _ _ (first_of _ _ left) (below_append q xs ys (second_of _ _ left) right)

shallower : (q : List ℕ) (n : ℕ) (ys : List PlainPlaced) → depth q < n → AreAt n ys → T (below_all depth_order q ys)
shallower q n [] lt all = tt
shallower q n (y ∷ ys) lt all =
    let is = all.0 in
    both_of _ _ (lt_of _ (ap (λ (o : Ordering). ordering_then o (path_order q y.0)) (numbers_rise (depth q) (depth y.0) (omega (arith, lt, is))))) (shallower q n ys lt all.1)

sorted_append : (n : ℕ) (xs ys : List PlainPlaced) → T (is_sorted depth_order xs) → T (is_sorted depth_order ys) → AreAbove n xs → AreAt n ys → T (is_sorted depth_order (xs ++ ys))
sorted_append n [] ys left right above at = right
sorted_append n (x ∷ xs) ys left right above at =
    both_of _ _ (below_append x.0 xs ys (first_of _ _ left) (shallower x.0 n ys above.0 at)) (sorted_append n xs ys (second_of _ _ left) right above.1 at)

level_below : (n : ℕ) (q : List ℕ) (c : List PlainPlaced) → depth q ≡ n → T (below_all path_order q c) → T (below_all depth_order q (at_depth n c))
level_below n q [] deep all = tt
level_below n q (x ∷ c) deep all = by (depth x.0 == n) refl (level_below n q c deep (second_of _ _ all)) where
  by : (e : Bool) → (depth x.0 == n) ≡ e → T (below_all depth_order q (at_depth n c)) → T (below_all depth_order q (cond e (x ∷ at_depth n c) (at_depth n c)))
  by true same rest =
      let is : depth x.0 ≡ n = grind (arith, nat_tests) in
      let tied = ap (λ (m : ℕ). nat_cmp m (depth x.0)) deep ∙ ap (nat_cmp n) is ∙ tied_itself nat_cmp_total n in
      both_of _ _ (lt_of _ (ap (λ (o : Ordering). ordering_then o (path_order q x.0)) tied ∙ less_of (path_order q x.0) (first_of _ _ all))) rest
  by false same rest = rest

level_sorted : (n : ℕ) (c : List PlainPlaced) → T (is_sorted path_order c) → T (is_sorted depth_order (at_depth n c))
level_sorted n [] sorted = tt
level_sorted n (x ∷ c) sorted = by (depth x.0 == n) refl (level_sorted n c (second_of _ _ sorted)) where
  by : (e : Bool) → (depth x.0 == n) ≡ e → T (is_sorted depth_order (at_depth n c)) → T (is_sorted depth_order (cond e (x ∷ at_depth n c) (at_depth n c)))
  by true same rest = let is : depth x.0 ≡ n = grind (arith, nat_tests) in both_of _ _ (level_below n x.0 c is (first_of _ _ sorted)) rest
  by false same rest = rest

above_sorted : (n : ℕ) (c : List PlainPlaced) → T (is_sorted path_order c) → T (is_sorted depth_order (above_depth n c))
unfolding above_depth
above_sorted zero c sorted = tt
above_sorted (suc n) c sorted =
    sorted_append n (above_depth n c) (at_depth n c) (above_sorted n c sorted) (level_sorted n c sorted) (above_is_above n c) (at_is_at n c)

pub all_listed : (c es : List PlainPlaced) → T (is_sorted path_order c) → es ≡ above_depth (DEPTH_LIMIT + 2) c → IsListing c es
all_listed c es sorted is = record {
  sorted = subst (λ (xs : List PlainPlaced). T (is_sorted depth_order xs)) (sym is) (above_sorted (DEPTH_LIMIT + 2) c sorted);
  each = λ test d few at. ap (filter (λ e. test e.0)) is ∙ all_above test d at (DEPTH_LIMIT + 2) few c;
}

-- ---- how many

abbrev less_than : ℕ → List PlainPlaced → ℕ
less_than n [] = 0
less_than n (x ∷ c) = cond (nat_lt (depth x.0) n) 1 0 + less_than n c

one_level : (n : ℕ) (c : List PlainPlaced) → less_than (suc n) c ≡ less_than n c + length (at_depth n c)
one_level n [] = refl
one_level n (x ∷ c) = by (nat_lt (depth x.0) n) (nat_lt (depth x.0) (suc n)) (depth x.0 == n) refl refl refl (one_level n c) where
  by : (a b e : Bool) → nat_lt (depth x.0) n ≡ a → nat_lt (depth x.0) (suc n) ≡ b → (depth x.0 == n) ≡ e → less_than (suc n) c ≡ less_than n c + length (at_depth n c) →
      cond b 1 0 + less_than (suc n) c ≡ cond a 1 0 + less_than n c + length (cond e (x ∷ at_depth n c) (at_depth n c))
  by true true false la lb same rest = omega (arith, rest)
  by false true true la lb same rest = omega (arith, rest)
  by false false false la lb same rest = omega (arith, rest)
  by true true true la lb same rest = absurd (grind (arith, nat_tests))
  by true false e la lb same rest = absurd (grind (arith, nat_tests))
  by false true false la lb same rest = absurd (grind (arith, nat_tests))
  by false false true la lb same rest = absurd (grind (arith, nat_tests))

few_less : (n : ℕ) (c : List PlainPlaced) → less_than n c ≤ length c
few_less n [] = omega arith
few_less n (x ∷ c) = by (nat_lt (depth x.0) n) (few_less n c) where
  by : (a : Bool) → less_than n c ≤ length c → cond a 1 0 + less_than n c ≤ suc (length c)
  by true rest = omega (arith, rest)
  by false rest = omega (arith, rest)

above_counted : (n : ℕ) (c : List PlainPlaced) → length (above_depth n c) ≡ less_than n c
unfolding above_depth
above_counted zero c = sym (none c) where
  none : (xs : List PlainPlaced) → less_than 0 xs ≡ 0
  none [] = refl
  none (x ∷ xs) = by (nat_lt (depth x.0) 0) refl (none xs) where
    by : (a : Bool) → nat_lt (depth x.0) 0 ≡ a → less_than 0 xs ≡ 0 → cond a 1 0 + less_than 0 xs ≡ 0
    by true lt rest = absurd (grind (arith, nat_tests))
    by false lt rest = omega (arith, rest)
above_counted (suc n) c = length-append (above_depth n c) (at_depth n c) ∙ ap (λ (m : ℕ). m + length (at_depth n c)) (above_counted n c) ∙ sym (one_level n c)

-- no more than there are
pub few_above : (n : ℕ) (c : List PlainPlaced) → length (above_depth n c) ≤ length c
few_above n c = omega (arith, above_counted n c, few_less n c)

-- ---- as they are put into a table

pub none_yet : (c : List PlainPlaced) → [] ≡ above_depth 0 c
unfolding above_depth
none_yet c = refl

next_depth : (d : ℕ) (c : List PlainPlaced) → above_depth d c ++ at_depth d c ≡ above_depth (suc d) c
unfolding above_depth
next_depth d c = refl

pub one_depth_more : (xs before : List PlainPlaced) (d : ℕ) (c : List PlainPlaced) → before ≡ above_depth d c → xs ≡ before ++ at_depth d c → xs ≡ above_depth (d + 1) c
one_depth_more xs before d c is put =
    let next : suc d ≡ d + 1 = omega arith in
    put ∙ ap (λ (ys : List PlainPlaced). ys ++ at_depth d c) is ∙ next_depth d c ∙ ap (λ (m : ℕ). above_depth m c) next

placed_length : (n : ℕ) (t : List PlainKnown) → n ≤ length t → length (placed_of (take n t)) ≡ n
placed_length n t few = length-map (take n t) (λ (k : PlainKnown). k.0) ∙ length-take-le n t few

-- a table without room for one depth more has none for all
pub too_many : (t : List PlainKnown) (n d : ℕ) (c : List PlainPlaced) → n ≤ length t → placed_of (take n t) ≡ above_depth d c → length t < n + length (at_depth d c) → length t < length c
too_many t n d c few is more =
    let counted : n ≡ length (above_depth d c) = sym (placed_length n t few) ∙ ap length is in
    let both : length (above_depth d c) + length (at_depth d c) ≡ length (above_depth (suc d) c) = sym (length-append (above_depth d c) (at_depth d c)) ∙ ap length (next_depth d c) in
    omega (arith, counted, both, few_above (suc d) c, more)

-- nor has one that is full where one more of a depth is left
pub no_room : (t old : List PlainKnown) (count before d : ℕ) (left rest c : List PlainPlaced) (x : PlainPlaced) → count ≡ length t → before ≤ length old → length t ≡ length old →
    placed_of (take count t) ++ at_depth d left ≡ placed_of (take before old) ++ at_depth d c → left ≡ x ∷ rest → depth x.0 ≡ d → length old < before + length (at_depth d c)
no_room t old count before d left rest c x full few same listed is deep =
    let one : (depth x.0 == d) ≡ true = grind (arith, nat_tests) in
    let kept : at_depth d left ≡ x ∷ at_depth d rest = ap (at_depth d) is ∙ keeps (λ y. depth y.0 == d) x rest one in
    let longer : length (placed_of (take count t)) + length (at_depth d left) ≡ length (placed_of (take before old)) + length (at_depth d c) =
    sym (length-append (placed_of (take count t)) (at_depth d left)) ∙ ap length listed ∙ length-append (placed_of (take before old)) (at_depth d c) in
    let more : length (at_depth d left) ≡ suc (length (at_depth d rest)) = ap length kept in
    omega (arith, longer, more, placed_length count t (omega (arith, full)), placed_length before old few, full, same)
