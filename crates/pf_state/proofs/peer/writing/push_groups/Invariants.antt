use Rattle.std.proofs.Common.{◌≡◌, ◌++◌, take}
use Rattle.std.specs.List.{All, flat_map}
use Rattle.pf_state.specs.Peer.Written.{IsGroup, group_bytes}
use Rattle.pf_state.proofs.peer.writing.push_groups.Given as goal

abbrev pub invariant-loop-group : goal.invariant-loop-group
invariant-loop-group l = record {
  written : l.out.items ≡ l.fn.out.items ++ flat_map group_bytes (take l.group-index l.fn.groups);
  kept : All IsGroup (take l.group-index l.fn.groups);
}
