use Rattle.std.proofs.Common.{◌≡◌, ◌++◌, map, take}
use Rattle.pf_state.specs.Failover.Incoming.{insert_step}
use Rattle.pf_state.proofs.failover.incoming.push_inserts.Given as goal

abbrev pub invariant-loop-insert : goal.invariant-loop-insert
invariant-loop-insert l = l.steps.items ≡ l.fn.steps.items ++ map (insert_step l.sum l.current l.rule_count) (take l.insert-index l.inserts)
