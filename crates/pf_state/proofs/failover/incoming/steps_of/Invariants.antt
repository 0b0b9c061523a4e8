use Rattle.std.proofs.Common.{◌≡◌, take}
use Rattle.std.specs.List.{flat_map}
use Rattle.pf_state.specs.Failover.Incoming.{group_steps}
use Rattle.pf_state.proofs.failover.incoming.steps_of.Given as goal

abbrev pub invariant-loop-group : goal.invariant-loop-group
invariant-loop-group l = l.steps.items ≡ flat_map (group_steps l.message.checksum l.current l.rule_count) (take l.group-index l.message.groups)
