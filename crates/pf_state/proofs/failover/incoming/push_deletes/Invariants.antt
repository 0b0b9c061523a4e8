use Rattle.std.proofs.Common.{◌≡◌, ◌++◌, map, take}
use Rattle.pf_state.specs.Failover.Incoming.{delete_step}
use Rattle.pf_state.proofs.failover.incoming.push_deletes.Given as goal

abbrev pub invariant-loop-delete : goal.invariant-loop-delete
invariant-loop-delete l = l.steps.items ≡ l.fn.steps.items ++ map delete_step (take l.delete-index l.deletes)
