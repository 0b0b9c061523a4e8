use Rattle.std.proofs.Common.{◌≡◌, take}
use Rattle.pf_map.proofs.level.copied.Given as goal

abbrev pub invariant-loop-slot : goal.invariant-loop-slot
invariant-loop-slot g l = l.made.items ≡ take l.slot-index l.slots
