-- What is known of rulesets, as the code looks for it: by their depth, and at one depth by their bytes.
use Rattle.std.proofs.{Common.{◌≡◌, ℕ, zero, suc, ◌<◌, ◌≤◌, ◌+◌, T, Bool, true, false, cond, List, [], ◌∷◌, ◌++◌, length, drop, get_or, Option, Some, None, refl, sym, ap, subst, ◌∙◌, lt-ltb, arith}, lemmas.Cmp.{upto, tied_itself, nat_cmp_total, nat_list_cmp_total, on_total, then_total}, lemmas.List.{drop_more, drop_all}, lemmas.Bool.{and_parts, Decides.nat_tests}}
use Rattle.std.specs.{Prelude.{filter, nat_lt, not}, declared.{cmp.Ordering.Ordering, cmp.Ordering.TheVariants.Less, cmp.Ordering.TheVariants.Equal, cmp.Ordering.TheVariants.Greater}, Ordering.{is_gt, is_ge, nat_cmp, ordering_then, ordering_reverse}, Cmp.{IsTotalOrder, Lexicographic.slice_cmp}, FinMap.{is_sorted, nat_cmp-IsAntisymmetric, Entries.below_all}, List.{list_any, Sorted.{IsPartitionedBy, IsPartitionPoint}}, Option.{option_map_or}}
use Rattle.pf_key.specs.Keys.{numbers_rise}
use Rattle.pf_addr.specs.declared.path.limits.TheConstants.{DEPTH_LIMIT}
use Rattle.pf_addr.specs.{Path.Paths.{path_order, same_path, is_slash}, Path.Nested.{depth, front, within, path_within, is_single, is_child}, Path.References.PlainReference}
use Rattle.pf_addr.proofs.{PathsRead.same_path_is, Nesting.{child_begins, child_is, has_one_more, leads_deeper}}
use Rattle.pf_map.proofs.Tests.{first_of, second_of, less_of}
use Rattle.pf_anchor.specs.{declared.{evaluated.Evaluated.Evaluated, evaluated.Evaluated.TheVariants.Open}, Matches.PlainMatch, Rulesets.{PlainPlaced, leads_from, leads_to}, Evaluation.{Tests, and_then, in_turn, evaluation}, Known.{PlainKnown, place_order, place_of, depth_order, placed_of, given, AreGiven, AreOnward, AreKept, IsEnough, IsListing}}
use Rattle.pf_anchor.proofs.{Evaluations.{and_then_none, deeper}, Siblings.single_left}

-- ---- one after the other

not_passed : (P : List ℕ → Bool) (q : List ℕ) → (P q ≡ true → ⊥) → P q ≡ false
not_passed P q none = by (P q) refl where
  by : (b : Bool) → P q ≡ b → b ≡ false
  by false is = refl
  by true is = absurd (none is)

pub given_yes : (P : List ℕ → Bool) (k : PlainKnown) (ks : List PlainKnown) → P k.0.0 ≡ true → given P (k ∷ ks) ≡ and_then k.1 (given P ks)
given_yes P k ks is = ap (λ (b : Bool). cond b (and_then k.1 (given P ks)) (given P ks)) is

pub given_no : (P : List ℕ → Bool) (k : PlainKnown) (ks : List PlainKnown) → P k.0.0 ≡ false → given P (k ∷ ks) ≡ given P ks
given_no P k ks is = ap (λ (b : Bool). cond b (and_then k.1 (given P ks)) (given P ks)) is

-- what is known of rulesets is what they give in turn
pub given_is : (f : PlainPlaced → Evaluated PlainMatch) (P : List ℕ → Bool) (ks : List PlainKnown) → AreGiven f ks → given P ks ≡ in_turn f (filter (λ e. P e.0) (placed_of ks))
given_is f P [] all = refl
given_is f P (k ∷ ks) all = by (P k.0.0) (given_is f P ks all.1) where
  by : (b : Bool) → given P ks ≡ in_turn f (filter (λ x. P x.0) (placed_of ks)) →
      cond b (and_then k.1 (given P ks)) (given P ks) ≡ in_turn f (cond b (k.0 ∷ filter (λ x. P x.0) (placed_of ks)) (filter (λ x. P x.0) (placed_of ks)))
  by true rest = ap (λ (x : Evaluated PlainMatch). and_then x (given P ks)) all.0 ∙ ap (and_then (f k.0)) rest
  by false rest = rest

-- ---- paths in order

pub place_total : IsTotalOrder place_order
place_total = then_total {R = λ a b. nat_cmp a.0 b.0} {S = λ a b. path_order a.1 b.1} (on_total (λ k. k.0) nat_cmp_total) (on_total (λ k. k.1) nat_list_cmp_total)

pub depth_total : IsTotalOrder depth_order
depth_total = on_total place_of place_total

-- from one key on, and past another: past the first
less_after : (p : ℕ × List ℕ) (q x : List ℕ) → is_gt (place_order p (place_of q)) ≡ false → depth_order q x ≡ Less → place_order p (place_of x) ≡ Less
less_after p q x from less = by (place_order p (place_of q)) refl from where
  by : (o : Ordering) → place_order p (place_of q) ≡ o → is_gt o ≡ false → place_order p (place_of x) ≡ Less
  by Less is h = place_total.trans p (place_of q) (place_of x) is less
  by Equal is h = place_total.congr p (place_of q) (place_of x) is ∙ less
  by Greater is h = absurd (cc (h))

-- a key past another isn't before it
not_back : (p q : List ℕ) → depth_order p q ≡ Less → depth_order q p ≡ Less → {A : Type 0} → A
not_back p q less back = absurd (cc (sym less ∙ depth_total.antisymm p q ∙ ap ordering_reverse back))

not_itself : (p : List ℕ) → depth_order p p ≡ Less → {A : Type 0} → A
not_itself p less = absurd (cc (sym less ∙ tied_itself depth_total p))

below_at : (q : List ℕ) (ks : List PlainKnown) → T (below_all depth_order q (placed_of ks)) → (j : ℕ) (d : PlainKnown) → j < length ks → depth_order q (get_or ks j d).0.0 ≡ Less
below_at q [] all j d lt = absurd (omega (arith, lt))
below_at q (k ∷ ks) all zero d lt = less_of (depth_order q k.0.0) (first_of _ _ all)
below_at q (k ∷ ks) all (suc j) d lt = below_at q ks (second_of _ _ all) j d (omega (arith, lt))

abbrev pub IsInOrder : List PlainKnown → Type 0
IsInOrder ks = T (is_sorted depth_order (placed_of ks))

in_order : (ks : List PlainKnown) → IsInOrder ks → (i j : ℕ) (d : PlainKnown) → i ≤ j → j < length ks → is_gt (depth_order (get_or ks i d).0.0 (get_or ks j d).0.0) ≡ false
in_order [] sorted i j d le lt = absurd (omega (arith, lt))
in_order (k ∷ ks) sorted zero zero d le lt = ap is_gt (tied_itself depth_total k.0.0)
in_order (k ∷ ks) sorted zero (suc j) d le lt = ap is_gt (below_at k.0.0 ks (first_of _ _ sorted) j d (omega (arith, lt)))
in_order (k ∷ ks) sorted (suc i) zero d le lt = absurd (omega (arith, le))
in_order (k ∷ ks) sorted (suc i) (suc j) d le lt = in_order ks (second_of _ _ sorted) i j d (omega (arith, le)) (omega (arith, lt))

-- those before a place stand in front
pub parted : (p : ℕ × List ℕ) (ks : List PlainKnown) → IsInOrder ks → IsPartitionedBy (λ k. is_gt (place_order p (place_of k.0.0))) ks
parted p ks sorted i j d le lt is = by (is_gt (place_order p (place_of (get_or ks i d).0.0))) refl where
  by : (b : Bool) → is_gt (place_order p (place_of (get_or ks i d).0.0)) ≡ b → is_gt (place_order p (place_of (get_or ks i d).0.0)) ≡ true
  by true e = e
  by false e = absurd (cc (sym is ∙ upto place_total p (place_of (get_or ks i d).0.0) (place_of (get_or ks j d).0.0) e (in_order ks sorted i j d le lt)))

less_on : (p q x : ℕ × List ℕ) → place_order p q ≡ Less → is_gt (place_order q x) ≡ false → place_order p x ≡ Less
less_on p q x less from = by (place_order q x) refl from where
  by : (o : Ordering) → place_order q x ≡ o → is_gt o ≡ false → place_order p x ≡ Less
  by Less is h = place_total.trans p q x less is
  by Equal is h =
      let back : place_order x q ≡ Equal = place_total.antisymm x q ∙ ap ordering_reverse is in
      place_total.antisymm p x ∙ ap ordering_reverse (place_total.congr x q p back ∙ place_total.antisymm q p ∙ ap ordering_reverse less)
  by Greater is h = absurd (cc (h))

ge_less : (o : Ordering) → is_ge o ≡ false → o ≡ Less
ge_less Less is = refl
ge_less Equal is = absurd (cc (is))
ge_less Greater is = absurd (cc (is))

-- so do those up to a place
pub parted_past : (p : ℕ × List ℕ) (ks : List PlainKnown) → IsInOrder ks → IsPartitionedBy (λ k. is_ge (place_order p (place_of k.0.0))) ks
parted_past p ks sorted i j d le lt is = by (is_ge (place_order p (place_of (get_or ks i d).0.0))) refl where
  by : (b : Bool) → is_ge (place_order p (place_of (get_or ks i d).0.0)) ≡ b → is_ge (place_order p (place_of (get_or ks i d).0.0)) ≡ true
  by true e = e
  by false e =
      let less = less_on p (place_of (get_or ks i d).0.0) (place_of (get_or ks j d).0.0) (ge_less _ e) (in_order ks sorted i j d le lt) in
      absurd (cc (sym is ∙ ap is_ge less))

pub sorted_after : (n : ℕ) (ks : List PlainKnown) → IsInOrder ks → IsInOrder (drop n ks)
sorted_after zero ks sorted = sorted
sorted_after (suc n) [] sorted = tt
sorted_after (suc n) (k ∷ ks) sorted = sorted_after n ks (second_of _ _ sorted)

-- ---- the place of a path

-- those in front that don't pass a test
front_none : (P : List ℕ → Bool) (n : ℕ) (ks : List PlainKnown) → ((i : ℕ) (d : PlainKnown) → i < n → P (get_or ks i d).0.0 ≡ false) → given P ks ≡ given P (drop n ks)
front_none P zero ks none = refl
front_none P (suc n) [] none = refl
front_none P (suc n) (k ∷ ks) none = given_no P k ks (none 0 k (omega arith)) ∙ front_none P n ks (λ i d lt. none (suc i) d (omega (arith, lt)))

abbrev pub IsPlaceOf : List ℕ → List PlainKnown → ℕ → Type 0
IsPlaceOf p ks n = IsPartitionPoint (λ k. is_gt (depth_order p k.0.0) ≡ true) (λ k. is_gt (depth_order p k.0.0) ≡ false) ks n

pub at_path : (p : List ℕ) (ks : List PlainKnown) (n d : ℕ) (b : List ℕ) → d ≡ depth p → b ≡ p →
    IsPartitionPoint (λ k. is_gt (place_order (d, b) (place_of k.0.0)) ≡ true) (λ k. is_gt (place_order (d, b) (place_of k.0.0)) ≡ false) ks n → IsPlaceOf p ks n
at_path p ks n d b deep is place =
    let same : (d, b) ≡ place_of p = λ i. (deep i, is i) in
    subst (λ (q : ℕ × List ℕ). IsPartitionPoint (λ k. is_gt (place_order q (place_of k.0.0)) ≡ true) (λ k. is_gt (place_order q (place_of k.0.0)) ≡ false) ks n) same place

-- paths that are one tie
one_path : (p q : List ℕ) → same_path p q ≡ true → depth_order p q ≡ Equal
one_path p q is = subst (λ (x : List ℕ). depth_order p x ≡ Equal) (same_path_is p q is) (tied_itself depth_total p)

gt_other : (p q : List ℕ) → is_gt (depth_order p q) ≡ true → same_path p q ≡ false
gt_other p q is = not_passed (same_path p) q (λ same. absurd (cc (sym is ∙ ap is_gt (one_path p q same))))

less_other : (p q : List ℕ) → depth_order p q ≡ Less → same_path p q ≡ false
less_other p q is = not_passed (same_path p) q (λ same. absurd (cc (sym is ∙ one_path p q same)))

same_front : (p : List ℕ) (ks : List PlainKnown) (n : ℕ) → IsPlaceOf p ks n → given (same_path p) ks ≡ given (same_path p) (drop n ks)
same_front p ks n place = front_none (same_path p) n ks (λ i d lt. gt_other p (get_or ks i d).0.0 (place.0 i d (omega arith) lt))

-- past a path nothing is at it
same_rest : (p q : List ℕ) (ks : List PlainKnown) → is_gt (depth_order p q) ≡ false → T (below_all depth_order q (placed_of ks)) → given (same_path p) ks ≡ Open None
same_rest p q [] from all = refl
same_rest p q (k ∷ ks) from all =
    given_no (same_path p) k ks (less_other p k.0.0 (less_after (place_of p) q k.0.0 from (less_of (depth_order q k.0.0) (first_of _ _ all))))
    ∙ same_rest p q ks from (second_of _ _ all)

-- what stands from a place on
pub after_is : (ks : List PlainKnown) (n : ℕ) (k : PlainKnown) → n < length ks → k ≡ get_or ks n k → drop n ks ≡ k ∷ drop (n + 1) ks
after_is ks n k lt is = drop_more ks n k lt ∙ ap (λ (x : PlainKnown). x ∷ drop (n + 1) ks) (sym is)

from_there : (p : List ℕ) (ks : List PlainKnown) (n : ℕ) (k : PlainKnown) → IsPlaceOf p ks n → n < length ks → k ≡ get_or ks n k → is_gt (depth_order p k.0.0) ≡ false
from_there p ks n k place lt is = ap (λ (x : PlainKnown). is_gt (depth_order p x.0.0)) is ∙ place.1 n k (omega arith) lt

all_past : (ks : List PlainKnown) (n : ℕ) (k : PlainKnown) (rest : List PlainKnown) → IsInOrder ks → drop n ks ≡ k ∷ rest → T (below_all depth_order k.0.0 (placed_of rest))
all_past ks n k rest sorted is = first_of _ _ (subst IsInOrder is (sorted_after n ks sorted))

pub at_the_place : (p : List ℕ) (ks : List PlainKnown) (n : ℕ) (k : PlainKnown) → IsInOrder ks → IsPlaceOf p ks n → n < length ks → k ≡ get_or ks n k → same_path p k.0.0 ≡ true → given (same_path p) ks ≡ k.1
at_the_place p ks n k sorted place lt is same =
    let left = after_is ks n k lt is in
    same_front p ks n place ∙ ap (given (same_path p)) left ∙ given_yes (same_path p) k (drop (n + 1) ks) same
    ∙ ap (and_then k.1) (same_rest p k.0.0 (drop (n + 1) ks) (from_there p ks n k place lt is) (all_past ks n k (drop (n + 1) ks) sorted left)) ∙ and_then_none k.1

pub not_at_the_place : (p : List ℕ) (ks : List PlainKnown) (n : ℕ) (k : PlainKnown) → IsInOrder ks → IsPlaceOf p ks n → n < length ks → k ≡ get_or ks n k → same_path p k.0.0 ≡ false → given (same_path p) ks ≡ Open None
not_at_the_place p ks n k sorted place lt is other =
    let left = after_is ks n k lt is in
    same_front p ks n place ∙ ap (given (same_path p)) left ∙ given_no (same_path p) k (drop (n + 1) ks) other
    ∙ same_rest p k.0.0 (drop (n + 1) ks) (from_there p ks n k place lt is) (all_past ks n k (drop (n + 1) ks) sorted left)

pub no_place : (p : List ℕ) (ks : List PlainKnown) (n : ℕ) → IsPlaceOf p ks n → length ks ≤ n → given (same_path p) ks ≡ Open None
no_place p ks n place past = same_front p ks n place ∙ ap (given (same_path p)) (drop_all n ks past)

-- ---- the children of a path stand together

-- before the children of a path
abbrev pub before_children : List ℕ → ℕ × List ℕ
before_children p = (depth p + 1, front p)

longer : (p : List ℕ) (y : List ℕ) → 0 < length y → path_order p (p ++ y) ≡ Less
longer [] [] some = absurd (omega (arith, some))
longer [] (y ∷ ys) some = refl
longer (b ∷ p) y some = ap (λ (o : Ordering). ordering_then o (slice_cmp nat_cmp p (p ++ y))) (tied_itself nat_cmp_total b) ∙ longer p y some

single_some : (x : List ℕ) → is_single x ≡ true → 0 < length x
single_some x is = let parts = and_parts (nat_lt 0 (length x)) (not (list_any is_slash x)) is in let some = parts.0 in grind (arith, nat_tests)

child_past : (p q : List ℕ) → is_child p q ≡ true → place_order (before_children p) (place_of q) ≡ Less
child_past p q is =
    let more = (has_one_more p q is).1.2 in
    let x = drop (length (front p)) q in
    ap (λ (n : ℕ). ordering_then (nat_cmp (depth p + 1) n) (path_order (front p) q)) more
    ∙ ap (λ (o : Ordering). ordering_then o (path_order (front p) q)) (tied_itself nat_cmp_total (depth p + 1))
    ∙ ap (path_order (front p)) (child_begins p q is) ∙ longer (front p) x (single_some x (and_parts _ _ is).1)

nat_same : (b c : ℕ) (o u : Ordering) → ordering_then (nat_cmp b c) o ≡ Less → ordering_then (nat_cmp c b) u ≡ Less → (b ≡ c) × (o ≡ Less) × (u ≡ Less)
nat_same b c o u from less = by (nat_cmp b c) refl from (ap (λ (r : Ordering). ordering_then r u) (sym (nat_cmp_total.antisymm c b)) ∙ less) where
  by : (r : Ordering) → nat_cmp b c ≡ r → ordering_then r o ≡ Less → ordering_then (ordering_reverse r) u ≡ Less → (b ≡ c) × (o ≡ Less) × (u ≡ Less)
  by Less is h g = absurd (cc (g))
  by Equal is h g = (nat_cmp-IsAntisymmetric b c is, h, g)
  by Greater is h g = absurd (cc (h))

-- between a path and one that begins with it, all begin with it
between_begins : (p q y : List ℕ) → path_order p q ≡ Less → path_order q (p ++ y) ≡ Less → (z : List ℕ) × (q ≡ p ++ z) × (0 < length z)
between_begins [] [] y from less = absurd (cc (from))
between_begins [] (c ∷ q) y from less = (c ∷ q, refl, omega arith)
between_begins (b ∷ p) [] y from less = absurd (cc (from))
between_begins (b ∷ p) (c ∷ q) y from less =
    let parts = nat_same b c (path_order p q) (path_order q (p ++ y)) from less in
    let rest = between_begins p q y parts.1 parts.2 in
    (rest.0, (λ i. sym parts.0 i ∷ rest.1 i), rest.2)

is_single_of : (x : List ℕ) → 0 < length x → list_any is_slash x ≡ false → is_single x ≡ true
is_single_of x some none = let lt : nat_lt 0 (length x) ≡ true = lt-ltb 0 (length x) some in rw (lt, none) refl

-- what stands before a child of a path and behind the place before them is a child too
pub child_between : (p q x : List ℕ) → place_order (before_children p) (place_of q) ≡ Less → depth_order q x ≡ Less → is_child p x ≡ true → is_child p q ≡ true
child_between p q x from less is =
    let more = (has_one_more p x is).1.2 in
    let parts = nat_same (depth p + 1) (depth q) (path_order (front p) q) (path_order q x) from (ap (λ (n : ℕ). ordering_then (nat_cmp (depth q) n) (path_order q x)) (sym more) ∙ less) in
    let found = between_begins (front p) q (drop (length (front p)) x) parts.1 (ap (path_order q) (sym (child_begins p x is)) ∙ parts.2) in
    let one : depth (within p found.0) ≡ depth p + 1 = ap depth (sym found.1) ∙ sym parts.0 in
    child_is p q found.0 found.1 ∙ is_single_of found.0 found.2 (single_left p found.0 found.2 one)

-- so if the first one behind isn't a child, none is
pub no_children : (p q : List ℕ) (ks : List PlainKnown) → place_order (before_children p) (place_of q) ≡ Less → is_child p q ≡ false → T (below_all depth_order q (placed_of ks)) → given (is_child p) ks ≡ Open None
no_children p q [] from other all = refl
no_children p q (k ∷ ks) from other all =
    given_no (is_child p) k ks (not_passed (is_child p) k.0.0 (λ is. absurd (cc (sym other ∙ child_between p q k.0.0 from (less_of (depth_order q k.0.0) (first_of _ _ all)) is))))
    ∙ no_children p q ks from other (second_of _ _ all)

abbrev pub IsPlacePast : ℕ × List ℕ → List PlainKnown → ℕ → Type 0
IsPlacePast p ks n = IsPartitionPoint (λ k. is_ge (place_order p (place_of k.0.0)) ≡ true) (λ k. is_ge (place_order p (place_of k.0.0)) ≡ false) ks n

pub past_front : (p : List ℕ) (ks : List PlainKnown) (n d : ℕ) (b : List ℕ) → d ≡ depth p → b ≡ front p → IsPlacePast (d + 1, b) ks n → IsPlacePast (before_children p) ks n
past_front p ks n d b deep is place =
    let same : (d + 1, b) ≡ before_children p = λ i. (deep i + 1, is i) in
    subst (λ (q : ℕ × List ℕ). IsPlacePast q ks n) same place

child_front : (p : List ℕ) (ks : List PlainKnown) (n : ℕ) → IsPlacePast (before_children p) ks n → given (is_child p) ks ≡ given (is_child p) (drop n ks)
child_front p ks n place =
    front_none (is_child p) n ks (λ i d lt. not_passed (is_child p) (get_or ks i d).0.0 (λ is. absurd (cc (sym (place.0 i d (omega arith) lt) ∙ ap is_ge (child_past p (get_or ks i d).0.0 is)))))

past_there : (p : ℕ × List ℕ) (ks : List PlainKnown) (n : ℕ) (k : PlainKnown) → IsPlacePast p ks n → n < length ks → k ≡ get_or ks n k → place_order p (place_of k.0.0) ≡ Less
past_there p ks n k place lt is = ge_less _ (ap (λ (x : PlainKnown). is_ge (place_order p (place_of x.0.0))) is ∙ place.1 n k (omega arith) lt)

onward_after : (n : ℕ) (ks : List PlainKnown) → AreOnward ks → AreOnward (drop n ks)
onward_after zero ks onward = onward
onward_after (suc n) [] onward = tt
onward_after (suc n) (k ∷ ks) onward = onward_after n ks onward.1

pub children_there : (p : List ℕ) (ks : List PlainKnown) (n : ℕ) (k : PlainKnown) → AreKept ks → IsPlacePast (before_children p) ks n → n < length ks → k ≡ get_or ks n k → is_child p k.0.0 ≡ true → given (is_child p) ks ≡ k.2
children_there p ks n k kept place lt at is =
    let left = after_is ks n k lt at in
    let onward = subst AreOnward left (onward_after n ks kept.onward) in
    child_front p ks n place ∙ ap (given (is_child p)) left ∙ sym (onward.0 p is)

pub no_children_there : (p : List ℕ) (ks : List PlainKnown) (n : ℕ) (k : PlainKnown) → AreKept ks → IsPlacePast (before_children p) ks n → n < length ks → k ≡ get_or ks n k → is_child p k.0.0 ≡ false → given (is_child p) ks ≡ Open None
no_children_there p ks n k kept place lt at other =
    let left = after_is ks n k lt at in
    child_front p ks n place ∙ ap (given (is_child p)) left ∙ given_no (is_child p) k (drop (n + 1) ks) other
    ∙ no_children p k.0.0 (drop (n + 1) ks) (past_there (before_children p) ks n k place lt at) other (all_past ks n k (drop (n + 1) ks) kept.sorted left)

pub no_children_past : (p : List ℕ) (ks : List PlainKnown) (n : ℕ) → IsPlacePast (before_children p) ks n → length ks ≤ n → given (is_child p) ks ≡ Open None
no_children_past p ks n place past = child_front p ks n place ∙ ap (given (is_child p)) (drop_all n ks past)

-- ---- from a child on

-- the next one says what the later children give, if it is one
pub next_says : (p q : List ℕ) (ks : List PlainKnown) (k : PlainKnown) → 0 < length ks → k ≡ get_or ks 0 k → AreOnward ks → is_child p k.0.0 ≡ true → k.2 ≡ given (is_child p) ks
next_says p q [] k some at onward is = absurd (omega (arith, some))
next_says p q (x ∷ ks) k some at onward is =
    ap (λ (y : PlainKnown). y.2) at ∙ onward.0 p (ap (λ (y : PlainKnown). is_child p y.0.0) (sym at) ∙ is)

pub next_is_none : (p : List ℕ) (e : PlainPlaced) (ks : List PlainKnown) (k : PlainKnown) → T (is_sorted depth_order (e ∷ placed_of ks)) → 0 < length ks → k ≡ get_or ks 0 k → is_child p e.0 ≡ true → is_child p k.0.0 ≡ false →
    Open None ≡ given (is_child p) ks
next_is_none p e [] k sorted some at is other = absurd (omega (arith, some))
next_is_none p e (x ∷ ks) k sorted some at is other =
    let own : is_child p x.0.0 ≡ false = ap (λ (y : PlainKnown). is_child p y.0.0) (sym at) ∙ other in
    let less = less_of (depth_order e.0 x.0.0) (first_of _ _ (first_of _ _ sorted)) in
    let from = place_total.trans (before_children p) (place_of e.0) (place_of x.0.0) (child_past p e.0 is) less in
    sym (given_no (is_child p) x ks own ∙ no_children p x.0.0 ks from own (first_of _ _ (second_of _ _ sorted)))

-- ---- what a reference leads to

pub given_nothing : (ks : List PlainKnown) → given (λ q. false) ks ≡ Open None
given_nothing [] = refl
given_nothing (k ∷ ks) = given_nothing ks

pub given_nowhere : (p : List ℕ) (r : PlainReference) (ks : List PlainKnown) → path_within p r.names ≡ None → given (leads_to p r) ks ≡ Open None
given_nowhere p r ks none = ap (λ (base : Option (List ℕ)). given (λ q. option_map_or (λ b. leads_from b r.wildcard q) base false) ks) none ∙ given_nothing ks

pub given_from : (p : List ℕ) (r : PlainReference) (base : List ℕ) (wildcard : Bool) (ks : List PlainKnown) → path_within p r.names ≡ Some base → r.wildcard ≡ wildcard → given (leads_to p r) ks ≡ given (leads_from base wildcard) ks
given_from p r base wildcard ks at is =
    ap (λ (o : Option (List ℕ)). given (λ q. option_map_or (λ b. leads_from b r.wildcard q) o false) ks) at ∙ ap (λ (w : Bool). given (leads_from base w) ks) is

-- ---- what a reference leads to comes after the ruleset, all at one depth

leads_after : (p : List ℕ) (s : PlainReference) (q : List ℕ) → leads_to p s q ≡ true → depth_order p q ≡ Less
leads_after p s q is = ap (λ (o : Ordering). ordering_then o (path_order p q)) (numbers_rise (depth p) (depth q) (deeper p s q is).0)

-- the same is led to among rulesets that are listed
led_to : (c es : List PlainPlaced) (p : List ℕ) (s : PlainReference) → IsListing c es → filter (λ e. leads_to p s e.0) es ≡ filter (λ e. leads_to p s e.0) c
led_to c es p s listing = by (path_within p s.names) refl where
  from : (base : List ℕ) (w : Bool) → depth base ≤ DEPTH_LIMIT → filter (λ e. leads_from base w e.0) es ≡ filter (λ e. leads_from base w e.0) c
  from base true few = listing.each (is_child base) (depth base + 1) (omega (arith, few)) (λ q is. (has_one_more base q is).1.2)
  from base false few = listing.each (same_path base) (depth base) (omega (arith, few)) (λ q is. sym (ap depth (same_path_is base q is)))

  by : (o : Option (List ℕ)) → path_within p s.names ≡ o → filter (λ e. leads_to p s e.0) es ≡ filter (λ e. leads_to p s e.0) c
  by None at =
      listing.each (leads_to p s) 0 (omega arith) (λ q is. absurd (cc (sym is ∙ ap (λ (o : Option (List ℕ)). option_map_or (λ b. leads_from b s.wildcard q) o false) at)))
  by (Some base) at =
      let same : (xs : List PlainPlaced) → filter (λ e. leads_to p s e.0) xs ≡ filter (λ e. leads_from base s.wildcard e.0) xs =
      λ xs. ap (λ (o : Option (List ℕ)). filter (λ e. option_map_or (λ b. leads_from b s.wildcard e.0) o false) xs) at in
      same es ∙ from base s.wildcard (leads_deeper p s.names base at).1 ∙ sym (same c)

-- ---- the rulesets that come after one are enough for its rules

below_after : (q : List ℕ) (c : List PlainPlaced) (i : ℕ) (e : PlainPlaced) (back : List PlainPlaced) → T (below_all depth_order q c) → drop i c ≡ e ∷ back → depth_order q e.0 ≡ Less
below_after q [] zero e back all is = absurd (cc (is))
below_after q [] (suc i) e back all is = absurd (cc (is))
below_after q (x ∷ c) zero e back all is =
    let same : x ≡ e = cc in
    ap (λ (y : PlainPlaced). depth_order q y.0) (sym same) ∙ less_of (depth_order q x.0) (first_of _ _ all)
below_after q (x ∷ c) (suc i) e back all is = below_after q c i e back (second_of _ _ all) is

skipped : (P : List ℕ → Bool) (x : PlainPlaced) (c : List PlainPlaced) → P x.0 ≡ false → filter (λ y. P y.0) (x ∷ c) ≡ filter (λ y. P y.0) c
skipped P x c is = ap (λ (b : Bool). cond b (x ∷ filter (λ y. P y.0) c) (filter (λ y. P y.0) c)) is

-- a test that only later paths pass keeps only later rulesets
kept_after : (P : List ℕ → Bool) (c : List PlainPlaced) (i : ℕ) (e : PlainPlaced) (back : List PlainPlaced) → T (is_sorted depth_order c) → drop i c ≡ e ∷ back →
    ((q : List ℕ) → P q ≡ true → depth_order e.0 q ≡ Less) → filter (λ x. P x.0) c ≡ filter (λ x. P x.0) back
kept_after P [] zero e back sorted is later = absurd (cc (is))
kept_after P [] (suc i) e back sorted is later = absurd (cc (is))
kept_after P (x ∷ c) zero e back sorted is later =
    ap (filter (λ y. P y.0)) is ∙ skipped P e back (not_passed P e.0 (λ h. not_itself e.0 (later e.0 h)))
kept_after P (x ∷ c) (suc i) e back sorted is later =
    skipped P x c (not_passed P x.0 (λ h. not_back e.0 x.0 (later x.0 h) (below_after x.0 c i e back (first_of _ _ sorted) is)))
    ∙ kept_after P c i e back (second_of _ _ sorted) is later

pub sorted_from : (c : List PlainPlaced) (i : ℕ) → T (is_sorted depth_order c) → T (is_sorted depth_order (drop i c))
sorted_from c zero sorted = sorted
sorted_from [] (suc i) sorted = tt
sorted_from (x ∷ c) (suc i) sorted = sorted_from c i (second_of _ _ sorted)

pub enough_after : (c es : List PlainPlaced) (tests : Tests) (i : ℕ) (e : PlainPlaced) (ks : List PlainKnown) → IsListing c es → drop i es ≡ e ∷ placed_of ks → AreGiven (evaluation c tests) ks → AreOnward ks →
    IsEnough (evaluation c tests) c e.0 ks
enough_after c es tests i e ks listing is all onward =
    let f = evaluation c tests in
    record {
      kept = record { sorted = second_of _ _ (subst (λ (xs : List PlainPlaced). T (is_sorted depth_order xs)) is (sorted_from es i listing.sorted)); onward = onward };
      each = λ r. given_is f (leads_to e.0 r) ks all
          ∙ ap (in_turn f) (sym (kept_after (leads_to e.0 r) es i e (placed_of ks) listing.sorted is (λ q. leads_after e.0 r q)) ∙ led_to c es e.0 r listing);
    }
