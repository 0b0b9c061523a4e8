use Rattle.std.proofs.Common.{◌≡◌, take}
use Rattle.pf_map.proofs.by_flow.each_hinted.Given as goal

abbrev pub invariant-loop-entry : goal.invariant-loop-entry
invariant-loop-entry g l = l.hinted.items ≡ take l.entry-index l.entries
