-- Laws of flows, states, steps and bindings, as law functions promise them.
use Rattle.std.specs.{Prelude.{◌≡◌, ◌≢◌, ℕ, ◌+◌, ◌<◌, ◌≤◌, ◌==◌, ◌&&◌, ◌↔◌, Bool, true, false, cond, List, [], ◌∷◌, length, take, Option, Some, None}, List.count_by, Ordering.eq_by_cmp}
use Rattle.pf_rule.specs.Packets.{PlainPacket}
use Rattle.pf_state.specs.{declared.{binding.TheConstants.ALL_ONES, limits.TheConstants.STATE_LIMIT, state.Bound.TheVariants.Rule, state.Bound.TheVariants.Default, state.Held.Held, state.StateName.StateName, step.Insertion.TheVariants.Stale, step.StateStep.StateStep, step.StateStep.TheVariants.Insert, step.StateStep.TheVariants.Delete, step.StateStep.TheVariants.Clear}, Flows.{PlainFlow, is_equal, turned, same_flow, flow_of}, States.{PlainState, name_order, held_at, state_of, NamesFlows, IsStates, stands, all_stand}, Steps.{insertion, has_effect, stepped, after, without_due, due_count, any_inserts_due, without_state, counts, passes_limit}, Bindings.{bound, exported}}

-- ---- flows

-- two flows are one exactly if they are equal, or one is the other turned; so flows fall into classes
pub record FlowsAlike (f g h : PlainFlow) : Type 0 where
  pub equal : (is_equal f g ≡ true) ↔ (f ≡ g)
  pub back : turned (turned f) ≡ f
  pub itself : same_flow f f ≡ true
  pub answer : same_flow f (turned f) ≡ true
  pub other : same_flow f g ≡ true → same_flow g f ≡ true
  pub third : same_flow f g ≡ true → same_flow g h ≡ true → same_flow f h ≡ true

abbrev pub OneFlowOrAnother : Type 0
OneFlowOrAnother = (f g h : PlainFlow) → FlowsAlike f g h

-- packets that differ only in their interface are of one flow
abbrev pub InterfaceIsNoPart : Type 0
InterfaceIsNoPart = (p q : PlainPacket) → p.direction ≡ q.direction → p.protocol ≡ q.protocol → p.source ≡ q.source
    → p.source_port ≡ q.source_port → p.destination ≡ q.destination → p.destination_port ≡ q.destination_port → flow_of p ≡ flow_of q

-- ---- the state of a flow

-- the state is held under its name, and has the flow
pub record IsStateOf (es : List PlainState) (f : PlainFlow) (s : PlainState) : Type 0 where
  pub held : held_at s.0 es ≡ Some s.1
  pub flow : same_flow s.1.flow f ≡ true

-- in a table at most one state has a flow, and it is the one that is found
pub record FindsTheState (es : List PlainState) (f : PlainFlow) : Type 0 where
  pub found : (s : PlainState) → (state_of f es ≡ Some s) ↔ IsStateOf es f s
  pub one : (s t : PlainState) → IsStateOf es f s → IsStateOf es f t → s ≡ t

abbrev pub OneStateAFlow : Type 0
OneStateAFlow = (es : List PlainState) (f : PlainFlow) → NamesFlows es → FindsTheState es f

-- ---- what a step changes

-- an insert that is stale or clashes changes nothing
abbrev pub KeepsWhatIsThere : Type 0
KeepsWhatIsThere = (es : List PlainState) (s : PlainState) → has_effect (insertion es s) ≡ false → stepped es (Insert s) ≡ es

-- an insert of a known name is stale exactly if its generation isn't greater, whatever its flow
abbrev pub StaleByGeneration : Type 0
StaleByGeneration = (es : List PlainState) (s : PlainState) (there : Held) → held_at s.0 es ≡ Some there
    → (insertion es s ≡ Stale) ↔ (s.1.generation ≤ there.generation)

-- what a step leaves under each name: an insert that has effect what it holds, a delete and a clear nothing, whatever the generation
pub record StepsRead (es : List PlainState) (q : StateName) : Type 0 where
  pub insert : (s : PlainState)
      → held_at q (stepped es (Insert s)) ≡ cond (has_effect (insertion es s) && eq_by_cmp name_order q s.0) (Some s.1) (held_at q es)
  pub delete : (n : StateName) → held_at q (stepped es (Delete n)) ≡ cond (eq_by_cmp name_order q n) None (held_at q es)
  pub clear : (creator : ℕ) → held_at q (stepped es (Clear creator)) ≡ cond (q.creator == creator) None (held_at q es)

abbrev pub ReadsWhatStepsLeave : Type 0
ReadsWhatStepsLeave = (es : List PlainState) (q : StateName) → StepsRead es q

-- only a name ties with itself
abbrev pub NamesAlike : Type 0
NamesAlike = (a b : StateName) → (eq_by_cmp name_order a b ≡ true) ↔ (a ≡ b)

-- ---- what a batch changes

-- what a step leaves under a name that held this
abbrev pub left_by : List PlainState → StateStep → StateName → Option Held → Option Held
left_by es (Insert s) q old = cond (has_effect (insertion es s) && eq_by_cmp name_order q s.0) (Some s.1) old
left_by es (Delete n) q old = cond (eq_by_cmp name_order q n) None old
left_by es (Clear creator) q old = cond (q.creator == creator) None old

-- what steps in turn leave there: what the last one that affects the name does
abbrev pub left_after_all : List PlainState → List StateStep → StateName → Option Held → Option Held
left_after_all es [] q old = old
left_after_all es (x ∷ xs) q old = left_after_all (stepped es x) xs q (left_by es x q old)

abbrev pub LastStepStands : Type 0
LastStepStands = (es : List PlainState) (steps : List StateStep) (q : StateName) → held_at q (after es steps) ≡ left_after_all es steps q (held_at q es)

-- the order stays, and names and flows stay unique; so does the limit, if the batch isn't refused
pub record LeavesStates (es : List PlainState) (steps : List StateStep) : Type 0 where
  pub names : NamesFlows es → NamesFlows (after es steps)
  pub table : IsStates es → passes_limit es steps ≡ false → IsStates (after es steps)

abbrev pub StaysStates : Type 0
StaysStates = (es : List PlainState) (steps : List StateStep) → LeavesStates es steps

-- a batch is taken exactly if, after each front of it, there are no more states than the limit
abbrev pub RefusedByAnyStep : Type 0
RefusedByAnyStep = (es : List PlainState) (steps : List StateStep) → IsStates es
    → (passes_limit es steps ≡ false) ↔ ((k : ℕ) → length (after es (take k steps)) ≤ STATE_LIMIT)

-- ---- ticks

-- what is left under a name that held this
abbrev pub still_held : ℕ → Option Held → Option Held
still_held tick None = None
still_held tick (Some held) = cond (stands tick held) (Some held) None

-- a tick takes out the states that are due and leaves all others as they are
pub record TakesOutTheDue (es : List PlainState) (tick : ℕ) : Type 0 where
  pub reads : (q : StateName) → held_at q (without_due es tick) ≡ still_held tick (held_at q es)
  pub stand : all_stand tick (without_due es tick) ≡ true
  pub count : length (without_due es tick) + due_count es tick ≡ length es
  pub table : IsStates es → IsStates (without_due es tick)

abbrev pub TicksTakeOutTheDue : Type 0
TicksTakeOutTheDue = (es : List PlainState) (tick : ℕ) → NamesFlows es → TakesOutTheDue es tick

-- where no state is due, none is after steps that insert none that is, or with a state taken out
pub record LeavesNoneDue (es : List PlainState) (tick : ℕ) : Type 0 where
  pub steps : (steps : List StateStep) → any_inserts_due tick steps ≡ false → all_stand tick (after es steps) ≡ true
  pub without : (n : StateName) → all_stand tick (without_state es n) ≡ true

abbrev pub StepsLeaveNoneDue : Type 0
StepsLeaveNoneDue = (es : List PlainState) (tick : ℕ) → all_stand tick es ≡ true → LeavesNoneDue es tick

-- ---- what is counted

abbrev pub is_insert : StateStep → Bool
is_insert (Insert s) = true
is_insert (Delete n) = false
is_insert (Clear creator) = false

-- each insert is counted once, and the number of states changes by what is counted
pub record AddsUp (es : List PlainState) (steps : List StateStep) : Type 0 where
  pub inserts : let c = counts es steps in c.inserted + (c.replaced + (c.stale + c.clash)) ≡ count_by is_insert steps
  pub states : length (after es steps) + (counts es steps).deleted ≡ length es + (counts es steps).inserted

abbrev pub CountsAddUp : Type 0
CountsAddUp = (es : List PlainState) (steps : List StateStep) → NamesFlows es → AddsUp es steps

-- ---- bindings

-- a state is bound to a main rule only by the checksum of the main rules here, and by the number of one of them
pub record BindsByRules (sum : List ℕ) (rule anchor : ℕ) (current : List ℕ) (count : ℕ) (number : ℕ) (kept : List ℕ) : Type 0 where
  pub same_rules : sum ≡ current
  pub one_rule : rule ≢ ALL_ONES
  pub no_anchor : anchor ≡ ALL_ONES
  pub within : rule < count
  pub its_number : number ≡ rule
  pub its_sum : kept ≡ sum

abbrev pub BindsExactly : Type 0
BindsExactly = (sum : List ℕ) (rule anchor : ℕ) (current : List ℕ) (count number : ℕ) (kept : List ℕ)
    → (bound sum rule anchor current count ≡ Rule number kept) ↔ BindsByRules sum rule anchor current count number kept

-- the number exported while the same rules are in place is the one that the state came with
abbrev pub TellsTheNumber : Type 0
TellsTheNumber = (sum : List ℕ) (rule anchor : ℕ) (current later : List ℕ) (count : ℕ)
    → let b = bound sum rule anchor current count in
    (later ≡ current → b ≢ Default → exported b later ≡ rule) × (later ≢ current → exported b later ≡ ALL_ONES)
