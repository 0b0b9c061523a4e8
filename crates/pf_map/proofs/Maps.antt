-- Maps as lists of entries: what is read of them once a value was replaced, that they stay in order, and by how much they grow.
use Rattle.std.proofs.{Common.{◌≡◌, ◌+◌, ◌≤◌, Bool, true, false, not, cond, List, [], ◌∷◌, length, T, ℕ, Option, Some, None, option_map, refl, sym, ap, ◌∙◌, arith}, lemmas.Cmp.{alike_right, eq_by_cmp_equiv, tied_itself}, lemmas.List.Sums.{length-filter, count_by-le-length}}
use Rattle.std.specs.{declared.{cmp.Ordering.Ordering, cmp.Ordering.TheVariants.Less, cmp.Ordering.TheVariants.Equal, cmp.Ordering.TheVariants.Greater}, Cmp.IsTotalOrder, Prelude.{fold, is_some}, FinMap.{find, put, is_sorted}, FinMap.Entries.{by_order, find-put, find-where_key, is_sorted-put, is_sorted-where_key, length-put, length_without}, Ordering.{eq_by_cmp, is_eq}}
use Rattle.pf_map.specs.{Laws.{ReplacesTheKey, StaysSorted, StaysMap}, Maps.{without, with_value, with_entry, IsMap}}

unless : {X : Type 0} (b : Bool) (x : Option X) → cond (not b) x None ≡ cond b None x
unless true x = refl
unless false x = refl

pub once : {X : Type 0} (b : Bool) (v x : Option X) → cond b v (cond b None x) ≡ cond b v x
once true v x = refl
once false v x = refl

find-without : {K X : Type 0} {R : K → K → Ordering} → IsTotalOrder R → (es : List (K × X)) (k q : K) → find R q (without R es k) ≡ cond (eq_by_cmp R q k) None (find R q es)
find-without {R = R} o es k q =
    find-where_key R (λ x. not (eq_by_cmp R k x)) q (λ x tied. ap (λ r. not (is_eq r)) (sym (alike_right o q x k tied))) es
    ∙ unless (eq_by_cmp R k q) (find R q es) ∙ ap (λ b. cond b None (find R q es)) ((eq_by_cmp_equiv o).symm k q)

pub replaces_the_key : {K : Type 0} (X : Type 0) {R : K → K → Ordering} → IsTotalOrder R → ReplacesTheKey X R
replaces_the_key X o es k None q = find-without o es k q
replaces_the_key X {R = R} o es k (Some v) q =
    find-put R o q k v (without R es k) ∙ ap (λ x. cond (eq_by_cmp R q k) (Some v) x) (find-without o es k q) ∙ once (eq_by_cmp R q k) (Some v) (find R q es)

pub stays_sorted : {K : Type 0} (X : Type 0) {R : K → K → Ordering} → IsTotalOrder R → StaysSorted X R
stays_sorted X {R = R} o es k None is = is_sorted-where_key R (λ x. not (eq_by_cmp R k x)) es is
stays_sorted X {R = R} o es k (Some v) is = is_sorted-put R o k v (without R es k) (is_sorted-where_key R (λ x. not (eq_by_cmp R k x)) es is)

put_grows : {K X : Type 0} (R : K → K → Ordering) (k : K) (v : X) (es : List (K × X)) → length (put R k v es) ≤ length es + 1
put_grows R k v [] = omega arith
put_grows R k v (e ∷ es) = elim (R k e.0) as (λ r. length (by_order r ((k, v) ∷ e ∷ es) ((e.0, v) ∷ es) (e ∷ put R k v es)) ≤ length (e ∷ es) + 1) [
  | Less ↦ omega arith
  | Equal ↦ omega arith
  | Greater ↦ omega (arith, put_grows R k v es)
]

without_shrinks : {K X : Type 0} (R : K → K → Ordering) (es : List (K × X)) (k : K) → length (without R es k) ≤ length es
without_shrinks {K} {X} R es k = let test : K × X → Bool = λ e. not (eq_by_cmp R k e.0) in omega (arith, length-filter test es, count_by-le-length test es)

-- a value replaced is one entry more at most
pub with_grows : {K X : Type 0} (R : K → K → Ordering) (es : List (K × X)) (k : K) (v : Option X) → length (with_value R es k v) ≤ length es + 1
with_grows R es k None = omega (arith, without_shrinks R es k)
with_grows R es k (Some v) = omega (arith, put_grows R k v (without R es k), without_shrinks R es k)

-- one entry less where there was one, and one more where there is one
count_with : {K X : Type 0} {R : K → K → Ordering} → IsTotalOrder R → (es : List (K × X)) (k : K) (v : Option X) → T (is_sorted R es) →
    cond (is_some (find R k es)) 1 0 + length (with_value R es k v) ≡ length es + cond (is_some v) 1 0
count_with {R = R} o es k None is = length_without R o k es is ∙ omega arith
count_with {X = X} {R = R} o es k (Some v) is =
    let left = without R es k in
    let gone : find R k left ≡ None = find-without o es k k ∙ ap (λ (b : Bool). cond b None (find R k es)) (ap is_eq (tied_itself o k)) in
    let put_in : length (put R k v left) ≡ length left + 1 = length-put R o k v left (is_sorted-where_key R (λ x. not (eq_by_cmp R k x)) es is)
    ∙ ap (λ (x : Option X). cond (is_some x) (length left) (length left + 1)) gone in
    let taken : cond (is_some (find R k es)) 1 0 + length left ≡ length es = length_without R o k es is in
    omega arith

-- a count that was changed so is that of the entries
pub recounted : {K X : Type 0} {R : K → K → Ordering} → IsTotalOrder R → (es : List (K × X)) (k : K) (v : Option X) (count after : ℕ) (had has : Bool) →
    T (is_sorted R es) → count ≡ length es → had ≡ is_some (find R k es) → has ≡ is_some v → after + cond had 1 0 ≡ count + cond has 1 0 →
    after ≡ length (with_value R es k v)
recounted {R = R} o es k v count after had has is counted had_is has_is sum =
    let there = count_with o es k v is in
    let same : after + cond (is_some (find R k es)) 1 0 ≡ count + cond (is_some v) 1 0 = rw (had_is, has_is) at sum in
    omega arith

-- whether there is an entry, and whether it has a value
pub is_there : {A K X : Type 0} (now : A → K × X) (k : K) (r : Option A) (x : Option X) → option_map now r ≡ option_map (λ v. (k, v)) x → is_some r ≡ is_some x
is_there now k None None is = refl
is_there now k None (Some v) is = absurd (cc (is))
is_there now k (Some a) None is = absurd (cc (is))
is_there now k (Some a) (Some v) is = refl

pub is_some-map : {A B : Type 0} (f : A → B) (r : Option A) → is_some r ≡ is_some (option_map f r)
is_some-map f None = refl
is_some-map f (Some a) = refl

-- ---- changes in turn

module _ {K X : Type 0} {R : K → K → Ordering} (o : IsTotalOrder R) (kept : X → Option X) (keeps : (v w : X) → kept v ≡ Some w → kept w ≡ Some w) where
  map_with : (es : List (K × X)) (e : K × X) → IsMap R kept es → IsMap R kept (with_entry R kept es e)
  map_with es e is = record {
    sorted = stays_sorted X o es e.0 (kept e.1) is.sorted;
    some = λ q v found. by q v (eq_by_cmp R q e.0) (sym (replaces_the_key X o es e.0 (kept e.1) q) ∙ found);
  } where
    by : (q : K) (v : X) (b : Bool) → cond b (kept e.1) (find R q es) ≡ Some v → kept v ≡ Some v
    by q v true there = keeps e.1 v there
    by q v false there = is.some q v there

  pub stays_map : StaysMap R kept
  stays_map [] es is = is
  stays_map (c ∷ cs) es is = stays_map cs (with_entry R kept es c) (map_with es c is)

-- each change is one entry more at most
pub all_grow : {K X : Type 0} (R : K → K → Ordering) (kept : X → Option X) (changes es : List (K × X)) → length (fold (with_entry R kept) es changes) ≤ length es + length changes
all_grow R kept [] es = omega arith
all_grow R kept (c ∷ cs) es = omega (arith, all_grow R kept cs (with_entry R kept es c), with_grows R es c.0 (kept c.1))
