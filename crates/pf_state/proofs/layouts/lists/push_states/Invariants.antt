use Rattle.std.proofs.Common.{◌≡◌, ◌++◌, true, length}
use Rattle.pf_form.specs.Bytes.BasicForms.{number_bytes}
use Rattle.pf_state.specs.Layouts.States.{state_form, plain_state, all_allowed}
use Rattle.pf_state.proofs.Pushing.{Pushing}
use Rattle.pf_state.proofs.layouts.lists.push_states.Given as goal

abbrev pub invariant-loop-state : goal.invariant-loop-state
invariant-loop-state l = record {
  pushing : Pushing (state_form l.version) plain_state l.state-iterator l.table (l.fn.out.items ++ number_bytes 4 (length l.table)) l.out.items;
  allowed : all_allowed l.version l.state-iterator ≡ true;
}
