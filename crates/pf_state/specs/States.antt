-- States, and the table of them (pf.conf(5)). How states are named and ordered is our own choice.
use Rattle.std.specs.{Prelude.{◌≡◌, ℕ, ◌≤◌, ◌==◌, ◌||◌, nat_lt, Bool, T, true, List, length, Option, Some}, FinMap.{find, is_sorted}, List.{list_all, find as first_where}, Ordering.{ordering_then, nat_cmp}}
use Rattle.std.specs.declared.cmp.Ordering.{Ordering}
use Rattle.pf_state.specs.{declared.{limits.TheConstants.STATE_LIMIT, state.Bound.Bound, state.Bound.TheVariants.Rule, state.Bound.TheVariants.Default, state.Held.Held, state.StateName.StateName}, Flows.{PlainFlow, same_flow}}

-- a state: its name, and what is held under it
abbrev pub PlainState : Type 0
PlainState = StateName × Held

-- by the number, then by the creator
abbrev pub name_order : StateName → StateName → Ordering
name_order a b = ordering_then (nat_cmp a.id b.id) (nat_cmp a.creator b.creator)

-- what is held under a name
abbrev pub held_at : StateName → List PlainState → Option Held
held_at n es = find name_order n es

-- the state of a flow: the first one there is, and in a table the only one
abbrev pub state_of : PlainFlow → List PlainState → Option PlainState
state_of f es = first_where (λ s. same_flow s.1.flow f) es

-- In the order of names, so no name twice; and no flow twice.
pub record NamesFlows (es : List PlainState) : Type 0 where
  pub sorted : T (is_sorted name_order es)
  pub one_flow : (a b : StateName) (x y : Held) → held_at a es ≡ Some x → held_at b es ≡ Some y → same_flow x.flow y.flow ≡ true → a ≡ b

-- the invariant of a table: that, and no more states than the limit
pub record IsStates (es : List PlainState) : Type 0 where
  pub names : NamesFlows es
  pub few : length es ≤ STATE_LIMIT

-- a checksum has 16 bytes (RFC 1321)
abbrev pub is_whole : Bound → Bool
is_whole Default = true
is_whole (Rule n sum) = length sum == 16

-- each of them is bound by a whole checksum, if by any
abbrev pub are_whole : List PlainState → Bool
are_whole es = list_all (λ s. is_whole s.1.bound) es

-- whether what is held stands at a tick: its expiry is 0, for never, or greater than the tick; else it is due
abbrev pub stands : ℕ → Held → Bool
stands tick held = (held.expiry == 0) || nat_lt tick held.expiry

-- none of them is due
abbrev pub all_stand : ℕ → List PlainState → Bool
all_stand tick es = list_all (λ s. stands tick s.1) es

-- none of them expires
abbrev pub none_expires : List PlainState → Bool
none_expires es = list_all (λ s. s.1.expiry == 0) es
