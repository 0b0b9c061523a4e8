use Rattle.std.proofs.Common.{◌≡◌, ◌++◌, map, take}
use Rattle.pf_state.specs.Failover.Incoming.{clear_step}
use Rattle.pf_state.proofs.failover.incoming.push_clears.Given as goal

abbrev pub invariant-loop-clear : goal.invariant-loop-clear
invariant-loop-clear l = l.steps.items ≡ l.fn.steps.items ++ map clear_step (take l.clear-index l.clears)
