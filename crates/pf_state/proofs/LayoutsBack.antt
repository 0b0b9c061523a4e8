-- Plain data give the flow, the state and the step back.
use Rattle.std.proofs.Common.{◌≡◌, List, [], ◌∷◌, map, refl}
use Rattle.pf_addr.specs.declared.{addr.Addr.Addr, addr.Addr.TheVariants.V4, addr.Addr.TheVariants.V6}
use Rattle.pf_rule.specs.{Bytes.direction_byte, declared.{value.direction.Direction.Direction, value.direction.Direction.TheVariants.In, value.direction.Direction.TheVariants.Out}}
use Rattle.pf_state.specs.{declared.{state.Bound.Bound, state.Bound.TheVariants.Rule, state.Bound.TheVariants.Default, state.Held.Held, step.StateStep.StateStep, step.StateStep.TheVariants.Insert, step.StateStep.TheVariants.Delete, step.StateStep.TheVariants.Clear}, Flows.PlainFlow, States.PlainState, Layouts.{Flows.{plain_addr, addr_in, plain_flow, direction_in, flow_in}, States.{plain_bound, bound_in, plain_held, held_in, plain_state, state_in, plain_states}, Steps.{plain_step, step_in}}}

direction_back : (d : Direction) → direction_in (direction_byte d) ≡ d
direction_back In = refl
direction_back Out = refl

addr_back : (a : Addr) → addr_in (plain_addr a) ≡ a
addr_back (V4 n) = refl
addr_back (V6 n) = refl

pub flow_back : (f : PlainFlow) → flow_in (plain_flow f) ≡ f
flow_back f = λ i. record {
  direction = direction_back f.direction i;
  protocol = f.protocol;
  source = addr_back f.source i;
  destination = addr_back f.destination i;
  source_port = f.source_port;
  destination_port = f.destination_port;
}

bound_back : (b : Bound) → bound_in (plain_bound b) ≡ b
bound_back (Rule n sum) = refl
bound_back Default = refl

held_back : (h : Held) → held_in (plain_held h) ≡ h
held_back h = λ i. record { generation = h.generation; flow = flow_back h.flow i; bound = bound_back h.bound i; expiry = h.expiry }

pub state_back : (s : PlainState) → state_in (plain_state s) ≡ s
state_back s = λ i. (s.0, held_back s.1 i)

pub states_back : (es : List PlainState) → map state_in (plain_states es) ≡ es
states_back [] = refl
states_back (s ∷ es) = rw (state_back s, states_back es) refl

pub step_back : (s : StateStep) → step_in (plain_step s) ≡ s
step_back (Insert s) = λ i. Insert (state_back s i)
step_back (Delete n) = refl
step_back (Clear creator) = refl
