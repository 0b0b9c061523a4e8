-- A map in parts: what is read and replaced in the part of a key's place is read and replaced in the map.
use Rattle.std.proofs.Common.{◌≡◌, ℕ, zero, suc, ◌-◌, ◌<◌, ◌≤◌, T, true, false, not, cond, List, [], ◌∷◌, ◌++◌, length, take, drop, get_or, Option, Some, None, option_map, refl, sym, ap, subst, ◌∙◌, append_assoc, append-nil, arith, map}
use Rattle.std.specs.declared.cmp.Ordering.{Ordering}
use Rattle.std.specs.declared.cmp.Ordering.TheVariants.{Less, Equal, Greater}
use Rattle.std.specs.Cmp.{IsTotalOrder}
use Rattle.std.specs.FinMap.{find, put, is_sorted}
use Rattle.std.specs.FinMap.Entries.{below_all, by_order}
use Rattle.std.specs.List.{AllByRecursion, insert, remove}
use Rattle.std.specs.Prelude.{slice_set}
use Rattle.std.specs.Ordering.{ordering_reverse, eq_by_cmp, is_eq, is_lt}
use Rattle.std.proofs.lemmas.List.{get_or_default, map-append, take-append-drop, take-set, drop-set-lt, get_or-set_same}
use Rattle.std.proofs.lemmas.List.Concat.{flat_map-append}
use Rattle.std.proofs.lemmas.List.Elements.{filter-append}
use Rattle.pf_map.specs.Maps.{without, with_value, entry_at}
use Rattle.pf_map.specs.MapParts.{joined, part_before, starts_after, IsPlace}
use Rattle.pf_map.proofs.Tests.{less_of, parts_of, both_of}

-- while a place is sought it is between these two
pub record IsBetween {K X : Type 0} (R : K → K → Ordering) (k : K) (parts : List (List (K × X))) (low high : ℕ) : Type 0 where
  pub ordered : low ≤ high
  pub within : high ≤ length parts
  pub some : 0 < length parts → 0 < low
  pub here : 1 < low → (0 < length (part_before low parts)) × (starts_after R k (part_before low parts) ≡ false)
  pub next : high < length parts → starts_after R k (get_or parts high []) ≡ true

-- the parts in front of the one just before a place
abbrev pub front_of : {E : Type 0} → ℕ → List (List E) → List (List E)
front_of zero parts = []
front_of (suc n) parts = take n parts

-- all entries around one part
pub around : {E : Type 0} (parts : List (List E)) (i : ℕ) → joined parts ≡ joined (take i parts) ++ (get_or parts i [] ++ joined (drop (suc i) parts))
around [] zero = refl
around [] (suc i) = refl
around (p ∷ parts) zero = refl
around (p ∷ parts) (suc i) = ap (λ z. p ++ z) (around parts i) ∙ sym (append_assoc p (joined (take i parts)) (get_or parts i [] ++ joined (drop (suc i) parts)))

around_place : {E : Type 0} (parts : List (List E)) (n : ℕ) → joined parts ≡ joined (front_of n parts) ++ (part_before n parts ++ joined (drop n parts))
around_place parts zero = refl
around_place parts (suc i) = around parts i

at_part : {E : Type 0} (parts : List (List E)) (i : ℕ) (part : List E) → i < length parts → part ≡ get_or parts i part → part ≡ get_or parts i []
at_part parts i part within is = is ∙ get_or_default parts i part [] within

-- around a part that became another one in its place stands what stood around it
pub around_set : {E : Type 0} (parts : List (List E)) (n : ℕ) (part : List E) → n < length parts →
    (take n (slice_set parts n part) ≡ take n parts) × (get_or (slice_set parts n part) n [] ≡ part) × (drop (suc n) (slice_set parts n part) ≡ drop (suc n) parts)
around_set parts n part within = (take-set parts n part, get_or-set_same parts n part [] within, drop-set-lt (suc n) parts n part (omega arith))

-- what comes before something that a key doesn't come before, comes before the key
past : {K : Type 0} {R : K → K → Ordering} → IsTotalOrder R → (k x y : K) → R x y ≡ Less → is_lt (R k y) ≡ false → R k x ≡ Greater
past {R = R} o k x y l not_less =
    elim (R k y) as (λ r. R k y ≡ r → is_lt r ≡ false → R k x ≡ Greater) [
      | Less ↦ λ e n. absurd (cc (n))
      | Equal ↦ λ e n. o.congr k y x e ∙ o.antisymm y x ∙ ap ordering_reverse l
      | Greater ↦ λ e n. o.antisymm k x ∙ ap ordering_reverse (o.trans x y k l (o.antisymm y k ∙ ap ordering_reverse e))
    ] refl not_less

module _ {K X : Type 0} {R : K → K → Ordering} (o : IsTotalOrder R) (k : K) where
  -- how a key stands to all of these entries
  abbrev AllAt : Ordering → List (K × X) → Type 0
  AllAt r es = AllByRecursion (λ e. R k e.0 ≡ r) es

  -- ---- entries that are all before a key, or all behind it

  put_after : (v : X) (a es : List (K × X)) → AllAt Greater a → put R k v (a ++ es) ≡ a ++ put R k v es
  put_after v [] es at = refl
  put_after v (e ∷ a) es at = rw at.0 (ap (λ z. e ∷ z) (put_after v a es at.1))

  put_before : (v : X) (m b : List (K × X)) → AllAt Less b → put R k v (m ++ b) ≡ put R k v m ++ b
  put_before v [] [] at = refl
  put_before v [] (e ∷ b) at = rw at.0 refl
  put_before v (e ∷ m) b at =
      elim (R k e.0) as (λ r. by_order r ((k, v) ∷ e ∷ (m ++ b)) ((e.0, v) ∷ (m ++ b)) (e ∷ put R k v (m ++ b)) ≡ by_order r ((k, v) ∷ e ∷ m) ((e.0, v) ∷ m) (e ∷ put R k v m) ++ b) [
        | Less ↦ refl
        | Equal ↦ refl
        | Greater ↦ ap (λ z. e ∷ z) (put_before v m b at)
      ]

  without_apart : (r : Ordering) (es : List (K × X)) → is_eq r ≡ false → AllAt r es → without R es k ≡ es
  without_apart r [] apart at = refl
  without_apart r (e ∷ es) apart at = rw (at.0, apart) (ap (λ z. e ∷ z) (without_apart r es apart at.1))

  without_around : (a m b : List (K × X)) → AllAt Greater a → AllAt Less b → without R (a ++ (m ++ b)) k ≡ a ++ (without R m k ++ b)
  without_around a m b before following = simp (filter-append, without_apart Greater a refl before, without_apart Less b refl following)

  with_around : (a m b : List (K × X)) (v : Option X) → AllAt Greater a → AllAt Less b → with_value R (a ++ (m ++ b)) k v ≡ a ++ (with_value R m k v ++ b)
  with_around a m b None before following = without_around a m b before following
  with_around a m b (Some v) before following =
      ap (put R k v) (without_around a m b before following) ∙ put_after v a (without R m k ++ b) before ∙ ap (λ z. a ++ z) (put_before v (without R m k) b following)

  find_apart : (r : Ordering) (a es : List (K × X)) → is_eq r ≡ false → AllAt r a → find R k (a ++ es) ≡ find R k es
  find_apart r [] es apart at = refl
  find_apart r (e ∷ a) es apart at = rw (at.0, apart) (find_apart r a es apart at.1)

  find_before : (m b : List (K × X)) → AllAt Less b → find R k (m ++ b) ≡ find R k m
  find_before [] b at = ap (find R k) (sym (append-nil b)) ∙ find_apart Less b [] refl at
  find_before (e ∷ m) b at = ap (λ z. cond (eq_by_cmp R k e.0) (Some e.1) z) (find_before m b at)

  -- ---- a map in order

  below_at : (x : K) (a : List (K × X)) (e : K × X) (es : List (K × X)) → T (below_all R x (a ++ e ∷ es)) → R x e.0 ≡ Less
  below_at x [] e es is = less_of _ (parts_of _ _ is).0
  below_at x (f ∷ a) e es is = below_at x a e es (parts_of _ _ is).1

  -- before a part that doesn't start behind a key all are before it
  all_before : (a part es : List (K × X)) → 0 < length part → starts_after R k part ≡ false → T (is_sorted R (a ++ (part ++ es))) → AllAt Greater a
  all_before a [] es some starts is = absurd (omega arith)
  all_before [] (e ∷ part) es some starts is = tt
  all_before (x ∷ a) (e ∷ part) es some starts is =
      let parts = parts_of _ _ is in (past o k x.0 e.0 (below_at x.0 a e (part ++ es) parts.0) starts, all_before a (e ∷ part) es some starts parts.1)

  -- behind an entry that is behind a key all are behind it
  all_after : (x : K) (es : List (K × X)) → R k x ≡ Less → T (below_all R x es) → AllAt Less es
  all_after x [] l is = tt
  all_after x (e ∷ es) l is = let parts = parts_of _ _ is in (o.trans k x e.0 l (less_of _ parts.0), all_after x es l parts.1)

  sorted_back : (xs ys : List (K × X)) → T (is_sorted R (xs ++ ys)) → T (is_sorted R ys)
  sorted_back [] ys is = is
  sorted_back (x ∷ xs) ys is = sorted_back xs ys (parts_of _ _ is).1

  -- ---- its parts

  front_before : (parts : List (List (K × X))) (n : ℕ) → IsPlace R k parts n → T (is_sorted R (joined parts)) → AllAt Greater (joined (front_of n parts))
  front_before parts zero at is = tt
  front_before parts (suc zero) at is = tt
  front_before parts (suc (suc i)) at is =
      let here = at.here (omega arith) in
      all_before (joined (take (suc i) parts)) (get_or parts (suc i) []) (joined (drop (suc (suc i)) parts)) here.0 here.1 (subst (λ z. T (is_sorted R z)) (around parts (suc i)) is)

  parts_after : (parts : List (List (K × X))) (n : ℕ) → (n < length parts → starts_after R k (get_or parts n []) ≡ true) → T (is_sorted R (joined parts)) → AllAt Less (joined (drop n parts))
  parts_after [] zero next is = tt
  parts_after [] (suc n) next is = tt
  parts_after ([] ∷ parts) zero next is = absurd (cc (next (omega arith)))
  parts_after ((e ∷ es) ∷ parts) zero next is = let l = less_of (R k e.0) (subst T (sym (next (omega arith))) tt) in (l, all_after e.0 (es ++ joined parts) l (parts_of _ _ is).0)
  parts_after (p ∷ parts) (suc n) next is = parts_after parts n (λ h. next (omega arith)) (sorted_back p (joined parts) is)

  replaced_there : (parts : List (List (K × X))) (n : ℕ) (v : Option X) → IsPlace R k parts n → T (is_sorted R (joined parts)) → with_value R (joined parts) k v ≡ joined (front_of n parts) ++ (with_value R (part_before n parts) k v ++ joined (drop n parts))
  replaced_there parts n v at is =
      ap (λ es. with_value R es k v) (around_place parts n)
      ∙ with_around (joined (front_of n parts)) (part_before n parts) (joined (drop n parts)) v (front_before parts n at is) (parts_after parts n at.next is)

  read_there : (parts : List (List (K × X))) (n : ℕ) → IsPlace R k parts n → T (is_sorted R (joined parts)) → find R k (joined parts) ≡ find R k (part_before n parts)
  read_there parts n at is =
      ap (find R k) (around_place parts n)
      ∙ find_apart Greater (joined (front_of n parts)) (part_before n parts ++ joined (drop n parts)) refl (front_before parts n at is)
      ∙ find_before (part_before n parts) (joined (drop n parts)) (parts_after parts n at.next is)

  -- ---- the same, as it is read at the part itself

  before_is : (parts : List (List (K × X))) (n : ℕ) → 0 < n → part_before n parts ≡ get_or parts (n - 1) []
  before_is parts zero some = absurd (omega arith)
  before_is parts (suc i) some = let less : suc i - 1 ≡ i = omega arith in rw less refl

  front_is : (parts : List (List (K × X))) (n : ℕ) → 0 < n → front_of n parts ≡ take (n - 1) parts
  front_is parts zero some = absurd (omega arith)
  front_is parts (suc i) some = let less : suc i - 1 ≡ i = omega arith in rw less refl

  pub replaced_at : (parts : List (List (K × X))) (n : ℕ) (part : List (K × X)) (v : Option X) → 0 < n → n - 1 < length parts → part ≡ get_or parts (n - 1) part → IsPlace R k parts n → T (is_sorted R (joined parts)) →
      with_value R (joined parts) k v ≡ joined (take (n - 1) parts) ++ (with_value R part k v ++ joined (drop n parts))
  replaced_at parts n part v some within is at sorted =
      replaced_there parts n v at sorted ∙ ap (λ z. joined z ++ (with_value R (part_before n parts) k v ++ joined (drop n parts))) (front_is parts n some)
      ∙ ap (λ z. joined (take (n - 1) parts) ++ (with_value R z k v ++ joined (drop n parts))) (before_is parts n some ∙ sym (at_part parts (n - 1) part within is))

  -- the part of the key's place became `w`, of which `f` says what there is then
  pub replaced_in_its_place : (parts : List (List (K × X))) (n : ℕ) (part w : List (K × X)) (v : Option X) (f : List (K × X) → List (K × X)) → 0 < n → n - 1 < length parts → part ≡ get_or parts (n - 1) part → IsPlace R k parts n → T (is_sorted R (joined parts)) →
      f w ≡ with_value R part k v →
      joined (take (n - 1) (slice_set parts (n - 1) w)) ++ (f (get_or (slice_set parts (n - 1) w) (n - 1) []) ++ joined (drop (suc (n - 1)) (slice_set parts (n - 1) w))) ≡ with_value R (joined parts) k v
  replaced_in_its_place parts n part w v f some within is at sorted changed =
      let around = around_set parts (n - 1) w within in
      let next : suc (n - 1) ≡ n = omega (arith, some) in
      rw (around.0, around.1, around.2, next, changed) (sym (replaced_at parts n part v some within is at sorted))

  pub read_at : (parts : List (List (K × X))) (n : ℕ) (part : List (K × X)) → 0 < n → n - 1 < length parts → part ≡ get_or parts (n - 1) part → IsPlace R k parts n → T (is_sorted R (joined parts)) → entry_at R k part ≡ entry_at R k (joined parts)
  read_at parts n part some within is at sorted =
      ap (λ z. option_map (λ v. (k, v)) z) (ap (find R k) (at_part parts (n - 1) part within is ∙ sym (before_is parts n some)) ∙ sym (read_there parts n at sorted))

-- ---- each part is in order

module _ {K X : Type 0} (R : K → K → Ordering) where
  below_front : (x : K) (xs ys : List (K × X)) → T (below_all R x (xs ++ ys)) → T (below_all R x xs)
  below_front x [] ys is = tt
  below_front x (e ∷ xs) ys is = let parts = parts_of _ _ is in both_of _ _ parts.0 (below_front x xs ys parts.1)

  sorted_front : (xs ys : List (K × X)) → T (is_sorted R (xs ++ ys)) → T (is_sorted R xs)
  sorted_front [] ys is = tt
  sorted_front (x ∷ xs) ys is = let parts = parts_of _ _ is in both_of _ _ (below_front x.0 xs ys parts.0) (sorted_front xs ys parts.1)

  sorted_rest : (xs ys : List (K × X)) → T (is_sorted R (xs ++ ys)) → T (is_sorted R ys)
  sorted_rest [] ys is = is
  sorted_rest (x ∷ xs) ys is = sorted_rest xs ys (parts_of _ _ is).1

  part_sorted : (parts : List (List (K × X))) (i : ℕ) → T (is_sorted R (joined parts)) → T (is_sorted R (get_or parts i []))
  part_sorted [] zero is = tt
  part_sorted [] (suc i) is = tt
  part_sorted (p ∷ parts) zero is = sorted_front p (joined parts) is
  part_sorted (p ∷ parts) (suc i) is = part_sorted parts i (sorted_rest p (joined parts) is)

  pub sorted_at : (parts : List (List (K × X))) (i : ℕ) (part : List (K × X)) → i < length parts → part ≡ get_or parts i part → T (is_sorted R (joined parts)) → T (is_sorted R part)
  sorted_at parts i part within is sorted = subst (λ z. T (is_sorted R z)) (sym (at_part parts i part within is)) (part_sorted parts i sorted)

-- ---- parts in two

pub halves : {E : Type 0} (n : ℕ) (parts : List (List E)) → joined (take n parts) ++ joined (drop n parts) ≡ joined parts
halves n parts = sym (flat_map-append (λ part. part) (take n parts) (drop n parts)) ∙ ap joined (take-append-drop n parts)

-- one more part behind others
pub one_pushed : {E : Type 0} (parts : List (List E)) (part : List E) → joined (parts ++ part ∷ []) ≡ joined parts ++ part
one_pushed parts part = simp (flat_map-append, append-nil)

-- what goes from the front of some entries behind parts, as one of them
pub page_moved : {E X : Type 0} (pair : E → X) (pages : List (List X)) (n : ℕ) (rest : List E) → joined (pages ++ map pair (take n rest) ∷ []) ++ map pair (drop n rest) ≡ joined pages ++ map pair rest
page_moved pair pages n rest =
    simp (flat_map-append, append_assoc, append-nil)
    (ap (λ l. joined pages ++ l) (sym (map-append pair (take n rest) (drop n rest)) ∙ ap (map pair) (take-append-drop n rest)))

-- a part that goes from the front of some behind others
pub one_moved : {E : Type 0} (before : List E) (page rest : List (List E)) (part : List E) → before ++ (joined (page ++ part ∷ []) ++ joined rest) ≡ before ++ (joined page ++ joined (part ∷ rest))
one_moved before page rest part = simp (flat_map-append, append_assoc, append-nil)

-- ---- what there is of a part that was changed in its place

-- of one part alone nothing stands around it
pub none_around : {E : Type 0} (parts : List (List E)) (n : ℕ) → n < length parts → length parts ≡ 1 → [] ≡ joined (take n parts) ++ ([] ++ joined (drop (suc n) parts))
none_around [] n within one = absurd (omega (arith, within))
none_around (p ∷ []) zero within one = refl
none_around (p ∷ []) (suc n) within one = absurd (omega (arith, within))
none_around (p ∷ q ∷ parts) n within one = absurd (omega (arith, one))

-- once it was taken out, what stood around it is all that is left
pub one_removed : {E : Type 0} (parts : List (List E)) (n : ℕ) → n < length parts → joined (remove parts n) ≡ joined (take n parts) ++ ([] ++ joined (drop (suc n) parts))
one_removed [] n within = absurd (omega (arith, within))
one_removed (p ∷ parts) zero within = refl
one_removed (p ∷ parts) (suc n) within =
    ap (λ z. p ++ z) (one_removed parts n (omega (arith, within))) ∙ sym (append_assoc p (joined (take n parts)) (joined (drop (suc n) parts)))

-- one more behind it
pub one_inserted : {E : Type 0} (parts : List (List E)) (n : ℕ) (following : List E) → n < length parts →
    joined (insert parts (suc n) following) ≡ joined (take n parts) ++ ((get_or parts n [] ++ following) ++ joined (drop (suc n) parts))
one_inserted [] n following within = absurd (omega (arith, within))
one_inserted (p ∷ parts) zero following within = sym (append_assoc p following (joined parts))
one_inserted (p ∷ parts) (suc n) following within =
    ap (λ z. p ++ z) (one_inserted parts n following (omega (arith, within)))
    ∙ sym (append_assoc p (joined (take n parts)) ((get_or parts n [] ++ following) ++ joined (drop (suc n) parts)))
