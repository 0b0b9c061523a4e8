-- The order of expiries: the states that have one, by when they expire and then by their names.
use Rattle.std.specs.{Prelude.{◌≡◌, ℕ, ◌==◌, ◌&&◌, T, Bool, not, false, cond, List, Some, None, Option}, FinMap.{find, is_sorted}, Option.option_map_or, Ordering.{ordering_then, nat_cmp}}
use Rattle.std.specs.declared.cmp.Ordering.{Ordering}
use Rattle.pf_map.specs.Maps.{without, with_value}
use Rattle.pf_state.specs.{declared.{dues.Due.Due, state.Held.Held, state.StateName.StateName}, States.{PlainState, name_order, held_at, stands}}

abbrev pub due_order : Due → Due → Ordering
due_order a b = ordering_then (nat_cmp a.expiry b.expiry) (name_order a.name b.name)

-- where a state stands in that order
abbrev pub due_of : PlainState → Due
due_of s = record { expiry = s.1.expiry; name = s.0 }

abbrev pub PlainDues : Type 0
PlainDues = List (Due × Unit {0})

-- with one more state, if it has an expiry
abbrev pub with_place : PlainDues → PlainState → PlainDues
with_place ds s = cond (s.1.expiry == 0) ds (with_value due_order ds (due_of s) (Some tt))

-- without a state, if there is one and it has an expiry
abbrev pub without_place : PlainDues → Option PlainState → PlainDues
without_place ds None = ds
without_place ds (Some s) = cond (s.1.expiry == 0) ds (without due_order ds (due_of s))

-- a state of this name has this expiry
abbrev pub is_listed : List PlainState → Due → Bool
is_listed es d = not (d.expiry == 0) && option_map_or (λ held. held.expiry == d.expiry) (held_at d.name es) false

-- `ds` has exactly the states of `es` that have an expiry
pub record AreDues (es : List PlainState) (ds : PlainDues) : Type 0 where
  pub sorted : T (is_sorted due_order ds)
  pub lists : (d : Due) → find due_order d ds ≡ cond (is_listed es d) (Some tt) None

-- there is a state of this name, and it is due at this tick
pub record IsDueAt (tick : ℕ) (n : StateName) (es : List PlainState) : Type 0 where
  pub held : Held
  pub there : held_at n es ≡ Some held
  pub due : stands tick held ≡ false
