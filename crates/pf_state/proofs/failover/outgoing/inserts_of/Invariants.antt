use Rattle.std.proofs.Common.{◌≡◌, map, take}
use Rattle.pf_state.specs.Failover.Outgoing.{exported_insert}
use Rattle.pf_state.proofs.failover.outgoing.inserts_of.Given as goal

abbrev pub invariant-loop-state : goal.invariant-loop-state
invariant-loop-state l = l.inserts.items ≡ map (exported_insert l.current) (take l.state-index l.states)
