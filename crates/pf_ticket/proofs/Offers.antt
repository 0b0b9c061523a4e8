-- What is read of a ruleset after its offer was replaced, that offers stay in order, and where one is.
use Rattle.std.proofs.{Common.{◌≡◌, ℕ, ◌+◌, ◌<◌, ◌≤◌, Bool, true, false, not, cond, T, List, [], ◌∷◌, length, map, set, refl, sym, ap, ◌∙◌, subst, Option, Some, None, arith, is_some}, lemmas.Cmp.{nat_cmp_total, nat_list_cmp_total}, lemmas.List.Sums.{length-filter, count_by-le-length}}
use Rattle.std.specs.{Cmp.{IsTotalOrder, on_total, then_total}, FinMap.{put, is_sorted, IsAntisymmetric}, FinMap.Entries.{by_order, is_some-find, is_sorted-where_key, length_without, length-put}, List.{HoldsAt, list_any, remove}, List.Sorted.{IsBinarySearchResult, IsSearchInRange}, Ordering.{eq_by_cmp, is_eq}, Prelude.{Result, Ok, Err, IfOk, IfErr}}
use Rattle.std.specs.declared.cmp.Ordering.TheVariants.{Less, Equal, Greater}
use Rattle.pf_map.specs.Maps.{without}
use Rattle.pf_map.proofs.Maps.{replaces_the_key, stays_sorted as sorted_with}
use Rattle.pf_ticket.specs.declared.{name.RulesetKind.RulesetKind, name.RulesetKind.TheVariants.Filter, name.RulesetKind.TheVariants.Table, name.RulesetName.RulesetName}
use Rattle.pf_ticket.specs.{Names.{kind_rank, same_name, is_named, ruleset_order, IsDistinct}, Laws.Names.{names_alike, name_is}, Tickets.{PlainInactive, PlainSlots, offer_at, with_offer, with_all, IsPlace, IsGap}}
use Rattle.pf_ticket.proofs.Places.{find_below, rises, find_between, without_between, with_between, find_at, without_at, with_at}
use Rattle.pf_map.proofs.Tests.{first_of, second_of}

-- ---- the order of names

pub order_total : IsTotalOrder ruleset_order
order_total = then_total (on_total (λ (n : RulesetName). kind_rank n.kind) nat_cmp_total) (on_total (λ (n : RulesetName). n.path) nat_list_cmp_total)

ties_by : (a b : RulesetName) (k m : RulesetKind) → a.kind ≡ k → b.kind ≡ m → eq_by_cmp ruleset_order a b ≡ same_name a b
ties_by a b Filter Filter e f = rw (e, f) refl
ties_by a b Filter Table e f = rw (e, f) refl
ties_by a b Table Filter e f = rw (e, f) refl
ties_by a b Table Table e f = rw (e, f) refl

-- names tie if they are of one ruleset
pub ties : (a b : RulesetName) → eq_by_cmp ruleset_order a b ≡ same_name b a
ties a b = ties_by a b a.kind b.kind refl refl ∙ names_alike.symm a b

order_alike : IsAntisymmetric ruleset_order
order_alike a b tied = sym (name_is b a (sym (ties a b) ∙ ap is_eq tied))

-- ---- what is read

pub reads_with : (os : PlainSlots) (n : RulesetName) (v : Option PlainInactive) (q : RulesetName) → offer_at (with_offer os n v) q ≡ cond (same_name n q) v (offer_at os q)
reads_with os n v q = replaces_the_key PlainInactive order_total os n v q ∙ ap (λ (b : Bool). cond b v (offer_at os q)) (ties q n)

abbrev pub names_under : PlainSlots → List RulesetName
names_under os = map (λ e. e.0) os

pub named_under : (os : PlainSlots) (q : RulesetName) → is_named (names_under os) q ≡ is_some (offer_at os q)
named_under os q = sym (is_some-find ruleset_order q os ∙ (λ i. list_any (λ n. ties q n i) (names_under os)))

-- ---- in order

abbrev pub AreInOrder : PlainSlots → Type 0
AreInOrder os = T (is_sorted ruleset_order os)

pub stays_sorted : (os : PlainSlots) (n : RulesetName) (v : Option PlainInactive) → AreInOrder os → AreInOrder (with_offer os n v)
stays_sorted os n v = sorted_with PlainInactive order_total os n v

pub stay_sorted : (os new : PlainSlots) → AreInOrder os → AreInOrder (with_all os new)
stay_sorted os [] h = h
stay_sorted os (e ∷ new) h = stay_sorted (with_offer os e.0 (Some e.1)) new (stays_sorted os e.0 (Some e.1) h)

-- setting the offer at the ruleset's place keeps the order
pub sorted_set : (os : PlainSlots) (n : RulesetName) (i : ℕ) (o : PlainInactive) → IsPlace n os i → AreInOrder os → AreInOrder (set os i (n, o))
sorted_set os n i o at h = subst AreInOrder (at.replaced o) (stays_sorted os n (Some o) h)

pub sorted_removed : (os : PlainSlots) (n : RulesetName) (i : ℕ) → IsPlace n os i → AreInOrder os → AreInOrder (remove os i)
sorted_removed os n i at h = subst AreInOrder at.removed (stays_sorted os n None h)

-- no ruleset has two offers
pub distinct : (os : PlainSlots) → AreInOrder os → IsDistinct (names_under os)
distinct [] h = tt
distinct (e ∷ os) h = (named_under os e.0 ∙ ap is_some (find_below order_total e.0 os (first_of _ _ h)), distinct os (second_of _ _ h))

-- ---- how many there are

pub length_out : (os : PlainSlots) (n : RulesetName) → length (with_offer os n None) ≤ length os
length_out os n = let test : RulesetName × PlainInactive → Bool = λ e. not (eq_by_cmp ruleset_order n e.0) in omega (arith, length-filter test os, count_by-le-length test os)

put_grows : (n : RulesetName) (o : PlainInactive) (os : PlainSlots) → length (put ruleset_order n o os) ≤ length os + 1
put_grows n o [] = omega arith
put_grows n o (e ∷ os) = elim (ruleset_order n e.0) as (λ r. length (by_order r ((n, o) ∷ e ∷ os) ((e.0, o) ∷ os) (e ∷ put ruleset_order n o os)) ≤ length (e ∷ os) + 1) [
  | Less ↦ omega arith
  | Equal ↦ omega arith
  | Greater ↦ omega (arith, put_grows n o os)
]

less_by : (n : RulesetName) (e : RulesetName × PlainInactive) (os : PlainSlots) (b : Bool) → eq_by_cmp ruleset_order n e.0 ≡ b → (is_some (offer_at os n) ≡ true → length (with_offer os n None) + 1 ≤ length os) → is_some (cond b (Some e.1) (offer_at os n)) ≡ true → length (with_offer (e ∷ os) n None) + 1 ≤ length (e ∷ os)
less_by n e os true is rest there = let most = length_out os n in rw is (omega (arith, most))
less_by n e os false is rest there = let fewer = rest there in rw is (omega (arith, fewer))

length_less : (n : RulesetName) (os : PlainSlots) → is_some (offer_at os n) ≡ true → length (with_offer os n None) + 1 ≤ length os
length_less n [] h = absurd (cc (h))
length_less n (e ∷ os) h = less_by n e os (eq_by_cmp ruleset_order n e.0) refl (length_less n os) h

-- a ruleset that had an offer adds none
pub length_replaced : (os : PlainSlots) (n : RulesetName) (o : PlainInactive) → is_some (offer_at os n) ≡ true → length (with_offer os n (Some o)) ≤ length os
length_replaced os n o h = let left = length_less n os h in let grown = put_grows n o (without ruleset_order os n) in omega (arith, left, grown)

count_put : (a l m : ℕ) (had found : Bool) → found ≡ false → m ≡ cond found a (a + 1) → cond had 1 0 + a ≡ l → m ≡ l + cond had 0 1
count_put a l m true true e g h = absurd (cc (e))
count_put a l m true false e g h = omega (arith, g, h)
count_put a l m false true e g h = absurd (cc (e))
count_put a l m false false e g h = omega (arith, g, h)

pub length_with : (os : PlainSlots) (n : RulesetName) (o : PlainInactive) → AreInOrder os → length (with_offer os n (Some o)) ≡ length os + cond (is_some (offer_at os n)) 0 1
length_with os n o h =
    let others : PlainSlots = without ruleset_order os n in
    count_put (length others) (length os) (length (with_offer os n (Some o))) (is_some (offer_at os n)) (is_some (offer_at others n))
    (ap is_some (reads_with os n None n) ∙ ap (λ (b : Bool). is_some (cond b None (offer_at os n))) (names_alike.refl n))
    (length-put ruleset_order order_total n o others (is_sorted-where_key ruleset_order (λ x. not (eq_by_cmp ruleset_order n x)) os h))
    (length_without ruleset_order order_total n os h)

-- ---- what a binary search answers

some_at : (n : RulesetName) (os : PlainSlots) (i : ℕ) → AreInOrder os → i < length os → HoldsAt (λ e. e.0 ≡ n) os i → is_some (offer_at os n) ≡ true
some_at n [] i h lt at = absurd (omega (arith, lt))
some_at n (e ∷ os) i h lt at = ap is_some (find_at order_total n (e ∷ os) i e h lt at)

pub place_found : (n : RulesetName) (os : PlainSlots) (r : Result ℕ ℕ) → AreInOrder os → IsSearchInRange r (length os) → IsBinarySearchResult (λ e. ruleset_order e.0 n) os r → IfOk r (IsPlace n os)
place_found n os (Ok i) h lt at =
    let named : HoldsAt (λ e. e.0 ≡ n) os i = λ d. order_alike _ _ (at d) in
    record {
      found = λ e is. (ap (λ (z : RulesetName × PlainInactive). z.0) is ∙ named e, find_at order_total n os i e h lt named ∙ ap (λ (z : RulesetName × PlainInactive). Some z.1) (sym is));
      some = some_at n os i h lt named;
      replaced = λ o. with_at order_total n o os i h lt named;
      removed = without_at order_total n os i h lt named;
    }
place_found n os (Err i) h lt at = tt

pub gap_found : (n : RulesetName) (os : PlainSlots) (r : Result ℕ ℕ) → AreInOrder os → IsSearchInRange r (length os) → IsBinarySearchResult (λ e. ruleset_order e.0 n) os r → IfErr r (IsGap n os)
gap_found n os (Ok i) h le at = tt
gap_found n os (Err i) h le at =
    let between = at (rises order_total n os h) in
    record {
      none = find_between order_total n os i le between;
      inserted = λ o. with_between order_total n o os i le between;
      kept = without_between order_total n os i le between;
    }
