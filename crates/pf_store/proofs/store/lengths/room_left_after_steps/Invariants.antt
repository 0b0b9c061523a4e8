use Rattle.std.proofs.Common.{◌≡◌, ◌+◌, drop}
use Rattle.pf_store.specs.Lengths.{step_length, total}
use Rattle.pf_store.proofs.store.lengths.room_left_after_steps.Given as goal

-- the rest is still to be taken off what is left
abbrev pub invariant-loop-step : goal.invariant-loop-step
invariant-loop-step l = l.room + total step_length (drop l.step-index l.steps) ≡ total step_length l.steps + l.left
