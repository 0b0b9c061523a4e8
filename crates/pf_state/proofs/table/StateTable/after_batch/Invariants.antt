use Rattle.std.proofs.Common.{◌≡◌, true}
use Rattle.pf_state.specs.{Ids.ListsAll, States.are_whole}
use Rattle.pf_state.proofs.Batches.{Acting}
use Rattle.pf_state.proofs.table.StateTable.after_batch.Given as goal

abbrev pub invariant-loop-step : goal.invariant-loop-step
invariant-loop-step l = Acting l.self l.steps l.step-index l.states l.counts × (are_whole l.states ≡ true) × ListsAll l.states l.ids
