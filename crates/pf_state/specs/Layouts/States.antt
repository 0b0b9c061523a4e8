-- A stored state in 96 bytes, in each version; and such states in the order of their names. Versions before `EXPIRY_FROM` have no expiry.
--
--   place width field
--       0     8 id
--       8     4 creator
--      12     4 generation
--      16    40 flow
--      56     8 all ones
--      64     1 what it is bound to: 0 the default rule, 1 a main rule
--      65     3 zeros
--      68     4 the rule's number, and 16 the checksum of its rules: zeros for the default rule
--      88     8 its expiry; zeros in a version without expiries
use Rattle.std.specs.{Prelude.{ℕ, ◌==◌, ◌&&◌, ◌||◌, nat_le, Bool, true, not, List, [], ◌∷◌, length, map, replicate, if◌then◌else◌}, List.{list_all, list_any}, Ordering.is_lt}
use Rattle.std.proofs.Common.{inl, inr}
use Rattle.pf_form.specs.Bytes.{Forms.{Shape, unit, nat, both, either, list, Value, ByteForm, nothing, number, front, or, times, counted, that, pair}, Lists.in_order}
use Rattle.pf_state.specs.{declared.{layouts.state.TheConstants.EXPIRY_FROM, limits.TheConstants.STATE_LIMIT, state.Bound.Bound, state.Bound.TheVariants.Rule, state.Bound.TheVariants.Default, state.Held.Held, state.StateName.StateName}, Flows.same_flow, Layouts.Flows.{FlowShape, flow_form, plain_flow, flow_in}, States.{PlainState, name_order}}

-- ---- names

abbrev pub NameShape : Shape
NameShape = both nat nat

unfoldable pub name_form : ByteForm NameShape
name_form = pair (number 8) (number 4)

abbrev pub plain_name : StateName → Value NameShape
plain_name n = (n.id, n.creator)

abbrev pub name_in : Value NameShape → StateName
name_in v = record { id = v.0; creator = v.1 }

-- ---- what states are bound to

abbrev pub BoundShape : Shape
BoundShape = either unit (both nat (list nat))

unfoldable pub bound_form : ByteForm BoundShape
bound_form = or 0 (front (replicate 23 0) (nothing tt)) (front (1 ∷ 0 ∷ 0 ∷ 0 ∷ []) (pair (number 4) (times 16 (number 1))))

abbrev pub plain_bound : Bound → Value BoundShape
plain_bound Default = inl tt
plain_bound (Rule n sum) = inr (n, sum)

abbrev pub bound_in : Value BoundShape → Bound
bound_in (inl u) = Default
bound_in (inr v) = Rule v.0 v.1

-- ---- expiries

-- whether forms of a version have expiries
abbrev pub has_expiry : ℕ → Bool
has_expiry version = nat_le EXPIRY_FROM version

-- where there are none, zeros for 0
unfoldable pub expiry_form : Bool → ByteForm nat
expiry_form has = if has then number 8 else front (replicate 8 0) (nothing 0)

-- ---- states

-- what is held under a name: the generation, the flow, what it is bound to, and the expiry
abbrev pub HeldShape : Shape
HeldShape = both nat (both FlowShape (both BoundShape nat))

unfoldable pub held_form : ℕ → ByteForm HeldShape
held_form version = pair (number 4) (pair flow_form (front (replicate 8 255) (pair bound_form (expiry_form (has_expiry version)))))

abbrev pub plain_held : Held → Value HeldShape
plain_held h = (h.generation, (plain_flow h.flow, (plain_bound h.bound, h.expiry)))

abbrev pub held_in : Value HeldShape → Held
held_in v = record { generation = v.0; flow = flow_in v.1.0; bound = bound_in v.1.1.0; expiry = v.1.1.1 }

abbrev pub StateShape : Shape
StateShape = both NameShape HeldShape

unfoldable pub state_form : ℕ → ByteForm StateShape
state_form version = pair name_form (held_form version)

abbrev pub plain_state : PlainState → Value StateShape
plain_state s = (plain_name s.0, plain_held s.1)

-- the state that has these plain data
abbrev pub state_in : Value StateShape → PlainState
state_in v = (name_in v.0, held_in v.1)

-- whether a version has a form for a state: one without expiries has none for a state with one
abbrev pub allows : ℕ → PlainState → Bool
allows version s = has_expiry version || (s.1.expiry == 0)

-- ---- many

abbrev pub all_allowed : ℕ → List PlainState → Bool
all_allowed version es = list_all (allows version) es

-- its name comes before the other's
abbrev pub state_before : Value StateShape → Value StateShape → Bool
state_before a b = is_lt (name_order (name_in a.0) (name_in b.0))

-- no two have one flow
abbrev pub no_flow_twice : List PlainState → Bool
no_flow_twice [] = true
no_flow_twice (s ∷ es) = not (list_any (λ t. same_flow s.1.flow t.1.flow) es) && no_flow_twice es

-- the states of a table: no more than the limit, in the order of their names, no name twice and no flow twice
abbrev pub are_a_table : List (Value StateShape) → Bool
are_a_table vs = nat_le (length vs) STATE_LIMIT && (in_order state_before vs && no_flow_twice (map state_in vs))

-- their number in four bytes, and that many, which make a table
abbrev pub states_form : ℕ → ByteForm (list StateShape)
states_form version = that are_a_table (counted 4 (state_form version))

abbrev pub plain_states : List PlainState → List (Value StateShape)
plain_states es = map plain_state es
