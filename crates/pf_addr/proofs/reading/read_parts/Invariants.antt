use Rattle.std.proofs.Common.{length}
use Rattle.pf_addr.specs.{Collected.parts_of, Reading.{part_at, single}}
use Rattle.pf_addr.proofs.Numbers.{SoFar}
use Rattle.pf_addr.proofs.reading.read_parts.Given as goal

abbrev pub invariant-loop-dot : goal.invariant-loop-dot
invariant-loop-dot l = SoFar part_at (single part_at) 46 parts_of l.fn.at l.text l.parts l.at l.rest

abbrev pub decreases-loop-dot : goal.decreases-loop-dot
decreases-loop-dot l = length l.rest
