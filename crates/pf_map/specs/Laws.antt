-- What follows from the definitions of maps, as law functions promise it.
use Rattle.std.specs.{Prelude.{◌≡◌, T, cond, List, Option, fold}, FinMap.{find, is_sorted}, Ordering.eq_by_cmp}
use Rattle.std.specs.declared.cmp.Ordering.{Ordering}
use Rattle.pf_map.specs.Maps.{with_value, with_entry, IsMap}

-- a key that was replaced has the new value, or none, and all else stays
abbrev pub ReplacesTheKey : {K : Type 0} → (X : Type 0) → (K → K → Ordering) → Type 0
ReplacesTheKey {K} X R = (es : List (K × X)) (k : K) (v : Option X) (q : K) →
    find R q (with_value R es k v) ≡ cond (eq_by_cmp R q k) v (find R q es)

-- what is left has its keys in order
abbrev pub StaysSorted : {K : Type 0} → (X : Type 0) → (K → K → Ordering) → Type 0
StaysSorted {K} X R = (es : List (K × X)) (k : K) (v : Option X) → T (is_sorted R es) → T (is_sorted R (with_value R es k v))

-- two lists in order of which the same is read at each key are one
abbrev pub OneList : {K : Type 0} → (X : Type 0) → (K → K → Ordering) → Type 0
OneList {K} X R = (a b : List (K × X)) → T (is_sorted R a) → T (is_sorted R b) → ((q : K) → find R q a ≡ find R q b) → a ≡ b

-- changes in turn leave a map
abbrev pub StaysMap : {K X : Type 0} → (K → K → Ordering) → (X → Option X) → Type 0
StaysMap {K} {X} R kept = (changes es : List (K × X)) → IsMap R kept es → IsMap R kept (fold (with_entry R kept) es changes)
