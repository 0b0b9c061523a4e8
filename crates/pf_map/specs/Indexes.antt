-- Values with two keys: the list of them in the order of names, and that of the same values under their flows.
use Rattle.std.specs.{Prelude.{◌≡◌, ◌&&◌, T, Bool, not, true, false, List, [], ◌∷◌, Option, Some, None}, FinMap.{find, is_sorted}, List.{list_any}, List.find as first_where, Option.option_map_or, Ordering.eq_by_cmp}
use Rattle.std.specs.declared.{cmp.Ordering.Ordering, cmp.Ordering.TheVariants.Equal}
use Rattle.pf_map.specs.Maps.{without}

module _ {N F V : Type 0} (S : F → F → Ordering) (flow : V → F) where
  -- the value of a flow: the first one there is, and in an index the only one
  abbrev pub of_flow : F → List (N × V) → Option (N × V)
  of_flow f es = first_where (λ e. eq_by_cmp S f (flow e.1)) es

  -- the flows once the value that there was, if any, was taken out
  abbrev pub unflowed : Option V → List (F × (N × V)) → List (F × (N × V))
  unflowed None fs = fs
  unflowed (Some old) fs = without S fs (flow old)

  -- whether no two values have one flow
  abbrev pub no_flow_twice : List (N × V) → Bool
  no_flow_twice [] = true
  no_flow_twice (e ∷ es) = not (list_any (λ t. eq_by_cmp S (flow e.1) (flow t.1)) es) && no_flow_twice es

  -- an index of just these values, or none where two of them have one flow
  abbrev pub IsIndexOf : List (N × V) → Option (List (N × V)) → Type 0
  IsIndexOf es (Some index) = (index ≡ es) × (no_flow_twice es ≡ true)
  IsIndexOf es None = no_flow_twice es ≡ false

module _ {N F V : Type 0} (R : N → N → Ordering) (S : F → F → Ordering) (flow : V → F) where
  -- whether a value of another name has the flow of this one
  abbrev pub is_clash : List (N × V) → N × V → Bool
  is_clash es new = option_map_or (λ e. not (eq_by_cmp R e.0 new.0)) (of_flow S flow (flow new.1) es) false

  -- `fs` has exactly the values of `es`, under their flows
  pub record IsIndex (es : List (N × V)) (fs : List (F × (N × V))) : Type 0 where
    pub names : T (is_sorted R es)
    pub flows : T (is_sorted S fs)
    pub listed : (n : N) (v : V) → find R n es ≡ Some v → (f : F) → S f (flow v) ≡ Equal → find S f fs ≡ Some (n, v)
    pub known : (f : F) (e : N × V) → find S f fs ≡ Some e → (find R e.0 es ≡ Some e.1) × (S f (flow e.1) ≡ Equal)
