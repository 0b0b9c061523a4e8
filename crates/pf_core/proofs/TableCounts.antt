-- How long the lists are that a change leaves: entries of a table, and tables of a map.
use Rattle.std.proofs.{Common.{◌≡◌, ℕ, ◌+◌, ◌≤◌, ◌==◌, ◌&&◌, not, suc, Bool, true, false, cond, List, [], ◌∷◌, length, Option, Some, None, refl, sym, subst, arith}, lemmas.Bool.Decides.nat_tests, lemmas.List.Sums.{length-filter, count_by-le-length}}
use Rattle.std.specs.{Prelude.{fold, is_some, filter}, declared.{cmp.Ordering.Ordering, cmp.Ordering.TheVariants.Less, cmp.Ordering.TheVariants.Equal, cmp.Ordering.TheVariants.Greater}, FinMap.{find, put}, FinMap.Entries.by_order, Ordering.eq_by_cmp}
use Rattle.pf_table.specs.{Edits.deleted, Entries.PlainEntry}
use Rattle.pf_map.specs.{Maps.without, ListMaps.{list_in, list_at, with_list}}
use Rattle.pf_anchor.specs.Tables.{PlainPlacedTable, placed_table, table_order, table_at, with_table}

fewer : {X : Type 0} (p : X → Bool) (xs : List X) → length (filter p xs) ≤ length xs
fewer p xs = subst (λ (n : ℕ). n ≤ length xs) (sym (length-filter p xs)) (count_by-le-length p xs)

-- ---- entries of a table

-- deleting entries where there are none leaves none
pub deleted-none : (xs : List PlainEntry) → deleted [] xs ≡ []
unfolding deleted
deleted-none [] = refl
deleted-none (x ∷ xs) = deleted-none xs

-- ---- a map's keys

module _ {K X : Type 0} (R : K → K → Ordering) where
  put-one : (k : K) (v : X) (es : List (K × X)) → length (put R k v es) ≤ length es + 1
  put-one k v [] = omega arith
  put-one k v (e ∷ es) =
      let rest : length (put R k v es) ≤ length es + 1 = put-one k v es in
      elim (R k e.0) as (λ o. length (by_order o ((k, v) ∷ e ∷ es) ((e.0, v) ∷ es) (e ∷ put R k v es)) ≤ suc (length es) + 1) [
        | Less ↦ omega arith
        | Equal ↦ omega arith
        | Greater ↦ omega (arith, rest)
      ]

  one-out : (k : K) (es : List (K × X)) → is_some (find R k es) ≡ true → length (without R es k) + 1 ≤ length es
  one-out k [] h = absurd (cc (h))
  one-out k (e ∷ es) h =
      let left : List (K × X) = without R es k in
      let less : length left ≤ length es = fewer (λ (x : K × X). not (eq_by_cmp R k x.0)) es in
      elim (eq_by_cmp R k e.0) as (λ b. is_some (cond b (Some e.1) (find R k es)) ≡ true → length (cond (not b) (e ∷ left) left) + 1 ≤ suc (length es)) [
        | true ↦ λ _. omega (arith, less)
        | false ↦ λ rest. let later : length left + 1 ≤ length es = one-out k es rest in omega (arith, later)
      ] h

is-there : {X : Type 0} (v : Option (List X)) → (length (list_in v) == 0) ≡ false → is_some v ≡ true
is-there None h = absurd (cc (h))
is-there (Some xs) h = refl

only-first : (a b : Bool) → (a && not b) ≡ false → b ≡ false → a ≡ false
only-first true true h is = absurd (cc (is))
only-first true false h is = h
only-first false b h is = refl

module _ {K X : Type 0} (R : K → K → Ordering) where
  -- what replaces something, or is nothing, adds no entry
  pub no-more : (new : List X) (k : K) (es : List (K × List X)) → ((length (list_at R k es) == 0) && not (length new == 0)) ≡ false → length (with_list R es (k, new)) ≤ length es
  no-more [] k es h = fewer (λ (x : K × List X). not (eq_by_cmp R k x.0)) es
  no-more (x ∷ xs) k es h =
      let some : (length (x ∷ xs) == 0) ≡ false = grind (arith, nat_tests) in
      let less : length (without R es k) + 1 ≤ length es = one-out R k es (is-there (find R k es) (only-first (length (list_at R k es) == 0) (length (x ∷ xs) == 0) h some)) in
      let more : length (put R k (x ∷ xs) (without R es k)) ≤ length (without R es k) + 1 = put-one R k (x ∷ xs) (without R es k) in
      omega (arith, less, more)

-- if a table adds none, there are no more tables
pub no-table-more : (ts : List PlainPlacedTable) (p name : List ℕ) (new : List PlainEntry) → ((length (table_at p name ts) == 0) && not (length new == 0)) ≡ false → length (fold with_table ts (placed_table p name new ∷ [])) ≤ length ts
no-table-more ts p name new h = no-more table_order new (p, name) ts h
