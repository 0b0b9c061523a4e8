-- Finite maps whose values are lists, where a key whose list is empty has no entry.
use Rattle.std.specs.{Prelude.{◌≡◌, ◌≢◌, T, cond, List, [], ◌∷◌, Option, Some, None, fold, is_some}, FinMap.{IsAntisymmetric, find, is_sorted}, Ordering.eq_by_cmp}
use Rattle.std.proofs.Common.{sym, ap, subst}
use Rattle.std.specs.declared.cmp.Ordering.{Ordering}
use Rattle.pf_map.specs.Maps.{with_value}

abbrev pub unless_empty : {X : Type 0} → List X → Option (List X)
unless_empty [] = None
unless_empty (x ∷ xs) = Some (x ∷ xs)

abbrev pub list_in : {X : Type 0} → Option (List X) → List X
list_in None = []
list_in (Some xs) = xs

module _ {K X : Type 0} (R : K → K → Ordering) where
  -- the list at a key: none where it has no entry
  abbrev pub list_at : K → List (K × List X) → List X
  list_at k es = list_in (find R k es)

  -- the map with the list at one key replaced, or taken out where the new one is empty
  abbrev pub with_list : List (K × List X) → K × List X → List (K × List X)
  with_list es e = with_value R es e.0 (unless_empty e.1)

  -- entries in the order of their keys, none of them twice; each is then what is found at its key, and so has a list
  pub record IsListMap (es : List (K × List X)) : Type 0 where
    pub sorted : T (is_sorted R es)
    pub filled : (k : K) → find R k es ≢ Some []

  -- the list at a key once these were replaced in turn: that of the last one that has this key, else the old one
  abbrev pub list_by : List (K × List X) → K → List X → List X
  list_by [] k old = old
  list_by (e ∷ es) k old = list_by es k (cond (eq_by_cmp R e.0 k) e.1 old)

-- what is kept of a list is kept of it again
pub kept_again : {X : Type 0} (xs ys : List X) → unless_empty xs ≡ Some ys → unless_empty ys ≡ Some ys
kept_again [] ys is = absurd (subst (λ v. T (is_some v)) (sym is) tt)
kept_again (x ∷ xs) ys is = subst (λ zs. unless_empty zs ≡ Some zs) (ap (λ v. list_in v) is) (λ i. Some (x ∷ xs))

-- ---- laws

module _ {K : Type 0} (X : Type 0) (R : K → K → Ordering) where
  abbrev pub ReplacesLists : Type 0
  ReplacesLists = (items es : List (K × List X)) (k : K) → list_at R k (fold (with_list R) es items) ≡ list_by R items k (list_at R k es)

  abbrev pub StaysListMap : Type 0
  StaysListMap = (items es : List (K × List X)) → IsListMap R es → IsListMap R (fold (with_list R) es items)

  -- two maps of which the same is read at each key are one, where only equal keys tie
  abbrev pub OneListMap : Type 0
  OneListMap = IsAntisymmetric R → (a b : List (K × List X)) → IsListMap R a → IsListMap R b → ((k : K) → list_at R k a ≡ list_at R k b) →
      a ≡ b
