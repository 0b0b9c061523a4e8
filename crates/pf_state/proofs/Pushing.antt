-- Items that are appended to bytes one by one.
use Rattle.std.proofs.{Common.{◌≡◌, ℕ, true, List, length, map, refl, arith}, lemmas.List.length-map, lemmas.Bool.Decides.nat_tests}
use Rattle.std.specs.{Prelude.nat_le, List.AllByRecursion}
use Rattle.pf_form.specs.Bytes.{BasicForms.onto_each, Forms.{Shape, Value, ByteForm, Fits, onto}}
use Rattle.pf_state.specs.{declared.limits.TheConstants.STATE_LIMIT, States.{PlainState, IsStates}, Layouts.{States.{state_form, states_form, plain_state, state_in, plain_states, no_flow_twice}}}
use Rattle.pf_state.proofs.{LayoutsBack.states_back, Rows.{in_turn, once_each}}

-- Of all the items these are left: once they are appended all are, and all fit if these do.
pub record Pushing {X : Type 0} {a : Shape} (f : ByteForm a) (plain : X → Value a) (rest all : List X) (begun out : List ℕ) : Type 0 where
  pub written : onto_each (onto f) (map plain rest) out ≡ onto_each (onto f) (map plain all) begun
  pub fits : AllByRecursion (Fits f) (map plain rest) → AllByRecursion (Fits f) (map plain all)

-- a table's states fit their form if each fits its own
pub states_fit : (version : ℕ) (es : List PlainState) → IsStates es → AllByRecursion (Fits (state_form version)) (plain_states es) → Fits (states_form version) (plain_states es)
states_fit version es is each =
    let few = is.few in
    let short : nat_le (length (plain_states es)) STATE_LIMIT ≡ true = grind (arith, nat_tests, few, length-map es plain_state) in
    let once : no_flow_twice (map state_in (plain_states es)) ≡ true = rw (states_back es) (once_each es is.names) in
    ((omega (arith, few, length-map es plain_state), each), rw (short, in_turn es is.names.sorted, once) refl)
