-- In a list in the order of its keys: where a key is, and what is found, replaced or taken out there.
use Rattle.std.proofs.{Common.{◌≡◌, ℕ, zero, suc, ◌<◌, ◌≤◌, false, not, cond, T, List, [], ◌∷◌, length, get_or, set, add-one, Some, None, refl, sym, ap, ◌∙◌, subst, arith}, lemmas.Cmp.tied_itself, lemmas.List.Sorted.searchable_from_sorted}
use Rattle.std.specs.{declared.{cmp.Ordering.Ordering, cmp.Ordering.TheVariants.Less, cmp.Ordering.TheVariants.Greater}, Cmp.IsTotalOrder, FinMap.{find, put, is_sorted}, FinMap.Entries.below_all, List.{HoldsAt, insert, remove}, List.Sorted.{IsNonDecreasingBy, IsPartitionPoint}, Ordering.{is_eq, is_lt, ordering_index, ordering_reverse}}
use Rattle.pf_map.specs.Maps.{without, with_value}
use Rattle.pf_map.proofs.Tests.{first_of, second_of, both_of, less_of}

module _ {K : Type 0} {R : K → K → Ordering} (o : IsTotalOrder R) where
  -- the other way round
  back : (a b : K) (r : Ordering) → R a b ≡ r → R b a ≡ ordering_reverse r
  back a b r e = o.antisymm b a ∙ ap ordering_reverse e

module _ {K X : Type 0} {R : K → K → Ordering} (o : IsTotalOrder R) where
  abbrev Below : K → List (K × X) → Type 0
  Below k es = T (below_all R k es)

  abbrev IsInOrder : List (K × X) → Type 0
  IsInOrder es = T (is_sorted R es)

  abbrev pub IsBetween : K → List (K × X) → ℕ → Type 0
  IsBetween k es i = IsPartitionPoint (λ e. R e.0 k ≡ Less) (λ e. R e.0 k ≡ Greater) es i

  below_at : (k : K) (es : List (K × X)) (i : ℕ) (d : K × X) → Below k es → i < length es → R k (get_or es i d).0 ≡ Less
  below_at k [] i d h lt = absurd (omega arith)
  below_at k (e ∷ es) zero d h lt = less_of _ (first_of _ _ h)
  below_at k (e ∷ es) (suc i) d h lt = below_at k es i d (second_of _ _ h) (omega arith)

  -- ---- a key before all others

  pub find_below : (k : K) (es : List (K × X)) → Below k es → find R k es ≡ None
  find_below k [] h = refl
  find_below k (e ∷ es) h = ap (λ r. cond (is_eq r) (Some e.1) (find R k es)) (less_of _ (first_of _ _ h)) ∙ find_below k es (second_of _ _ h)

  without_below : (k : K) (es : List (K × X)) → Below k es → without R es k ≡ es
  without_below k [] h = refl
  without_below k (e ∷ es) h = ap (λ r. cond (not (is_eq r)) (e ∷ without R es k) (without R es k)) (less_of _ (first_of _ _ h)) ∙ ap (λ l. e ∷ l) (without_below k es (second_of _ _ h))

  put_below : (k : K) (v : X) (es : List (K × X)) → Below k es → put R k v es ≡ (k, v) ∷ es
  put_below k v [] h = refl
  put_below k v (e ∷ es) h = rw (less_of (R k e.0) (first_of _ _ h)) refl

  -- ---- what a binary search asks

  ordered : (es : List (K × X)) → IsInOrder es → (i : ℕ) (d : K × X) → suc i < length es → is_lt (R (get_or es (suc i) d).0 (get_or es i d).0) ≡ false
  ordered [] h i d lt = absurd (omega arith)
  ordered (e ∷ es) h zero d lt = ap is_lt (back o e.0 (get_or es zero d).0 Less (below_at e.0 es zero d (first_of _ _ h) (omega arith)))
  ordered (e ∷ es) h (suc i) d lt = ordered es (second_of _ _ h) i d (omega arith)

  pub rises : (k : K) (es : List (K × X)) → IsInOrder es → IsNonDecreasingBy (λ e. ordering_index (R e.0 k)) es
  rises k es h = searchable_from_sorted o (λ (e : K × X). e.0) es k (λ i d lo lt. rw add-one (ordered es h i d (omega arith)))

  -- ---- where a key would be

  below_from : (k : K) (es : List (K × X)) → ((i : ℕ) (d : K × X) → 0 ≤ i → i < length es → R (get_or es i d).0 k ≡ Greater) → Below k es
  below_from k [] at = tt
  below_from k (e ∷ es) at = both_of _ _ (subst (λ r. T (is_lt r)) (sym (back o e.0 k Greater (at 0 e (omega arith) (omega arith)))) tt) (below_from k es (λ i d lo lt. at (suc i) d (omega arith) (omega arith)))

  between_rest : (k : K) (e : K × X) (es : List (K × X)) (i : ℕ) → IsBetween k (e ∷ es) (suc i) → IsBetween k es i
  between_rest k e es i at = (λ j d lo lt. at.0 (suc j) d (omega arith) (omega arith), λ j d lo lt. at.1 (suc j) d (omega arith) (omega arith))

  pub find_between : (k : K) (es : List (K × X)) (i : ℕ) → i ≤ length es → IsBetween k es i → find R k es ≡ None
  find_between k es zero le at = find_below k es (below_from k es at.1)
  find_between k [] (suc i) le at = refl
  find_between k (e ∷ es) (suc i) le at = rw (back o e.0 k Less (at.0 0 e (omega arith) (omega arith))) (find_between k es i (omega arith) (between_rest k e es i at))

  pub without_between : (k : K) (es : List (K × X)) (i : ℕ) → i ≤ length es → IsBetween k es i → without R es k ≡ es
  without_between k es zero le at = without_below k es (below_from k es at.1)
  without_between k [] (suc i) le at = refl
  without_between k (e ∷ es) (suc i) le at = rw (back o e.0 k Less (at.0 0 e (omega arith) (omega arith))) (ap (λ l. e ∷ l) (without_between k es i (omega arith) (between_rest k e es i at)))

  put_between : (k : K) (v : X) (es : List (K × X)) (i : ℕ) → i ≤ length es → IsBetween k es i → put R k v es ≡ insert es i (k, v)
  put_between k v es zero le at = put_below k v es (below_from k es at.1)
  put_between k v [] (suc i) le at = absurd (omega arith)
  put_between k v (e ∷ es) (suc i) le at = rw (back o e.0 k Less (at.0 0 e (omega arith) (omega arith))) (ap (λ l. e ∷ l) (put_between k v es i (omega arith) (between_rest k e es i at)))

  pub with_between : (k : K) (v : X) (es : List (K × X)) (i : ℕ) → i ≤ length es → IsBetween k es i → with_value R es k (Some v) ≡ insert es i (k, v)
  with_between k v es i le at = ap (put R k v) (without_between k es i le at) ∙ put_between k v es i le at

  -- ---- where a key is

  find_there : (es : List (K × X)) (i : ℕ) (d : K × X) → IsInOrder es → i < length es → find R (get_or es i d).0 es ≡ Some (get_or es i d).1
  find_there [] i d h lt = absurd (omega arith)
  find_there (e ∷ es) zero d h lt = rw (tied_itself o e.0) refl
  find_there (e ∷ es) (suc i) d h lt = rw (back o e.0 (get_or es i d).0 Less (below_at e.0 es i d (first_of _ _ h) (omega arith))) (find_there es i d (second_of _ _ h) (omega arith))

  without_there : (es : List (K × X)) (i : ℕ) (d : K × X) → IsInOrder es → i < length es → without R es (get_or es i d).0 ≡ remove es i
  without_there [] i d h lt = absurd (omega arith)
  without_there (e ∷ es) zero d h lt = rw (tied_itself o e.0) (without_below e.0 es (first_of _ _ h))
  without_there (e ∷ es) (suc i) d h lt = rw (back o e.0 (get_or es i d).0 Less (below_at e.0 es i d (first_of _ _ h) (omega arith))) (ap (λ l. e ∷ l) (without_there es i d (second_of _ _ h) (omega arith)))

  with_there : (es : List (K × X)) (i : ℕ) (v : X) (d : K × X) → IsInOrder es → i < length es → with_value R es (get_or es i d).0 (Some v) ≡ set es i ((get_or es i d).0, v)
  with_there [] i v d h lt = absurd (omega arith)
  with_there (e ∷ es) zero v d h lt = ap (put R e.0 v) (without_there (e ∷ es) zero d h lt) ∙ put_below e.0 v es (first_of _ _ h)
  with_there (e ∷ es) (suc i) v d h lt =
      let following = back o e.0 (get_or es i d).0 Less (below_at e.0 es i d (first_of _ _ h) (omega arith)) in
      rw (following, following) (ap (λ l. e ∷ l) (with_there es i v d (second_of _ _ h) (omega arith)))

  abbrev pub StandsAt : K → List (K × X) → ℕ → Type 0
  StandsAt k es i = HoldsAt (λ e. e.0 ≡ k) es i

  pub find_at : (k : K) (es : List (K × X)) (i : ℕ) (d : K × X) → IsInOrder es → i < length es → StandsAt k es i → find R k es ≡ Some (get_or es i d).1
  find_at k es i d h lt at = subst (λ m. find R m es ≡ Some (get_or es i d).1) (at d) (find_there es i d h lt)

  pub without_at : (k : K) (es : List (K × X)) (i : ℕ) → IsInOrder es → i < length es → StandsAt k es i → without R es k ≡ remove es i
  without_at k [] i h lt at = absurd (omega arith)
  without_at k (e ∷ es) i h lt at = subst (λ m. without R (e ∷ es) m ≡ remove (e ∷ es) i) (at e) (without_there (e ∷ es) i e h lt)

  pub with_at : (k : K) (v : X) (es : List (K × X)) (i : ℕ) → IsInOrder es → i < length es → StandsAt k es i → with_value R es k (Some v) ≡ set es i (k, v)
  with_at k v es i h lt at = subst (λ m. with_value R es m (Some v) ≡ set es i (m, v)) (at (k, v)) (with_there es i v (k, v) h lt)
