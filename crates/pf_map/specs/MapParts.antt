-- A map in parts, which are lists of entries that follow one another, and the part where a key's entry is.
use Rattle.std.specs.{Prelude.{◌≡◌, ℕ, zero, suc, ◌<◌, ◌≤◌, Bool, true, false, List, [], ◌∷◌, length, get_or, map, flat_map, ◌++◌, Option, Some, None}, Ordering.is_lt}
use Rattle.std.specs.declared.cmp.Ordering.{Ordering}

-- the entries of parts one after the other
abbrev pub joined : {E : Type 0} → List (List E) → List E
joined parts = flat_map (λ part. part) parts

-- the first of a list
abbrev pub first_of : {E : Type 0} → List E → Option E
first_of [] = None
first_of (e ∷ es) = Some e

-- the part just before this place, where there is one
abbrev pub part_before : {E : Type 0} → ℕ → List (List E) → List E
part_before zero parts = []
part_before (suc n) parts = get_or parts n []

-- whether a key comes before a part's first entry
abbrev pub starts_after : {K X : Type 0} → (K → K → Ordering) → K → List (K × X) → Bool
starts_after R k [] = false
starts_after R k (e ∷ es) = is_lt (R k e.0)

-- in a map in order, the part just before this place is the one where the key's entry is, or would be
pub record IsPlace {K X : Type 0} (R : K → K → Ordering) (k : K) (parts : List (List (K × X))) (n : ℕ) : Type 0 where
  pub within : n ≤ length parts
  pub some : 0 < length parts → 0 < n
  pub here : 1 < n → (0 < length (part_before n parts)) × (starts_after R k (part_before n parts) ≡ false)
  pub next : n < length parts → starts_after R k (get_or parts n []) ≡ true
