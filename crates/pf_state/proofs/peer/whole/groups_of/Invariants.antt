use Rattle.std.proofs.Common.{◌++◌, List, length}
use Rattle.pf_state.specs.{declared.{peer.message.Group.Group, peer.fault.PeerFault.PeerFault}, Peer.Groups.{AreGroups, BreakAfterGroups}}
use Rattle.pf_state.proofs.peer.whole.groups_of.Given as goal

-- what is left is groups, or has a fault, as the whole is or has
abbrev pub invariant-loop-rest : goal.invariant-loop-rest
invariant-loop-rest l = record {
  good : (gs : List Group) → AreGroups l.rest gs → AreGroups l.fn.bytes (l.groups.items ++ gs);
  bad : (gs : List Group) (f : PeerFault) → BreakAfterGroups gs l.rest f → BreakAfterGroups (l.groups.items ++ gs) l.fn.bytes f;
}

abbrev pub decreases-loop-rest : goal.decreases-loop-rest
decreases-loop-rest l = length l.rest
