use Rattle.std.proofs.{Common.{◌<◌, List, length, subst, arith}, lemmas.List.{drop_all, length-map}}
use Rattle.std.specs.Prelude.{◌^◌}
use Rattle.pf_form.specs.Bytes.Forms.{Fits}
use Rattle.pf_state.specs.{declared.step.StateStep.StateStep, Layouts.Steps.{steps_form, plain_step, plain_steps}}
use Rattle.pf_state.proofs.layouts.lists.push_steps.Goals as goal

pub returns-clause-fits : goal.returns-clause-fits
returns-clause-fits c =
    let steps = c.as_slice-steps.result.now in
    let few : length steps < 2 ^ 32 = rw c.as_slice-steps.ensures c.requires.few in
    let each = c.loop-step.invariant.pushing.fits (rw (drop_all c.loop-step.step-index steps c.loop-step-test.false) tt) in
    subst (λ (l : List StateStep). Fits (steps_form c.args.version) (plain_steps l)) c.as_slice-steps.ensures
    (omega (arith, few, length-map steps plain_step), each)
