use Rattle.std.proofs.Common.{◌≡◌, ◌++◌, true, length, drop}
use Rattle.pf_form.specs.Bytes.BasicForms.{number_bytes}
use Rattle.pf_state.specs.Layouts.Steps.{step_form, plain_step, allows_steps}
use Rattle.pf_state.proofs.Pushing.{Pushing}
use Rattle.pf_state.proofs.layouts.lists.push_steps.Given as goal

abbrev pub invariant-loop-step : goal.invariant-loop-step
invariant-loop-step l = record {
  pushing : Pushing (step_form l.version) plain_step (drop l.step-index l.steps) l.steps (l.fn.out.items ++ number_bytes 4 (length l.steps)) l.out.items;
  allowed : allows_steps l.version (drop l.step-index l.steps) ≡ true;
}
