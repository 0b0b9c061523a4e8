-- The ids of the states of some creators, by which a batch that clears more than one time finds what each clear takes out.
use Rattle.std.specs.{Prelude.{◌≡◌, ℕ, ◌==◌, Bool, true, cond, List, [], ◌∷◌, ◌++◌, Option, Some}, BTreeMap.get, List.list_any, Option.option_map, Ordering.nat_cmp}
use Rattle.pf_state.specs.{declared.{ids.Ids.Ids, state.Held.Held, state.StateName.StateName}, States.{PlainState, held_at}}

-- the ids under a creator, if it is one of those
abbrev pub ids_of : Ids → ℕ → Option (List ℕ)
ids_of ids creator = option_map (λ listed. listed.items) (get nat_cmp ids.by_creator creator)

-- what is under a creator once one state more was listed, if its creator is one of those
abbrev pub with_name : Ids → StateName → ℕ → Option (List ℕ)
with_name ids n creator = cond (creator == n.creator) (option_map (λ listed. listed ++ n.id ∷ []) (ids_of ids creator)) (ids_of ids creator)

-- what is under a creator once the ids of one were taken out, if it is one of those
abbrev pub emptied : Ids → ℕ → ℕ → Option (List ℕ)
emptied ids cleared creator = cond (creator == cleared) (option_map (λ listed. []) (ids_of ids creator)) (ids_of ids creator)

abbrev pub is_id : StateName → List ℕ → Bool
is_id n listed = list_any (λ id. n.id == id) listed

-- each state of this creator has one of these ids
pub record HasAll (es : List PlainState) (creator : ℕ) (listed : List ℕ) : Type 0 where
  pub all : (n : StateName) (held : Held) → held_at n es ≡ Some held → (n.creator == creator) ≡ true → is_id n listed ≡ true

-- so it is with each creator that is one of those
pub record ListsAll (es : List PlainState) (ids : Ids) : Type 0 where
  pub lists : (creator : ℕ) (listed : List ℕ) → ids_of ids creator ≡ Some listed → HasAll es creator listed
