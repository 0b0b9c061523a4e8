-- Finite maps, as the list of their entries in the order of their keys. `put`, `where_key`, `find` and `is_sorted` are std's.
use Rattle.std.specs.{Prelude.{◌≡◌, T, not, List, Option, Some, None}, FinMap.{find, put, is_sorted}, FinMap.Entries.where_key, Option.option_map, Ordering.eq_by_cmp}
use Rattle.std.specs.declared.cmp.Ordering.{Ordering}

module _ {K X : Type 0} (R : K → K → Ordering) where
  -- the map with no value at a key
  abbrev pub without : List (K × X) → K → List (K × X)
  without es k = where_key R (λ x. not (eq_by_cmp R k x)) es

  -- the map with the value at one key replaced, or taken out
  abbrev pub with_value : List (K × X) → K → Option X → List (K × X)
  with_value es k None = without es k
  with_value es k (Some v) = put R k v (without es k)

  -- the map with the value at an entry's key replaced, or taken out where the new one stands for none; `kept` says what is kept of a value
  abbrev pub with_entry : (X → Option X) → List (K × X) → K × X → List (K × X)
  with_entry kept es e = with_value es e.0 (kept e.1)

  -- the entry at a key
  abbrev pub entry_at : K → List (K × X) → Option (K × X)
  entry_at k es = option_map (λ v. (k, v)) (find R k es)

-- entries in the order of their keys, none of them twice; each is then what is found at its key, and so has a value that is kept
pub record IsMap {K X : Type 0} (R : K → K → Ordering) (kept : X → Option X) (es : List (K × X)) : Type 0 where
  pub sorted : T (is_sorted R es)
  pub some : (k : K) (v : X) → find R k es ≡ Some v → kept v ≡ Some v
