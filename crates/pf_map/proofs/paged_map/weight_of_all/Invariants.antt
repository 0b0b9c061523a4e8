use Rattle.std.proofs.Common.{◌<◌, ◌^◌, length, take}
use Rattle.pf_map.specs.Weights.{IsWeighed}
use Rattle.pf_map.proofs.paged_map.weight_of_all.Given as goal

abbrev pub invariant-loop-entry : goal.invariant-loop-entry
invariant-loop-entry g l = IsWeighed g.W.Weigher.weight (take l.entry-index l.entries) l.weight × (length l.entries < 2 ^ 64)
