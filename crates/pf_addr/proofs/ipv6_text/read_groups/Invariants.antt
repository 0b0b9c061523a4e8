use Rattle.std.proofs.Common.{length}
use Rattle.pf_addr.specs.{Collected.groups_of, Reading.{group_at, end_at}}
use Rattle.pf_addr.proofs.Numbers.{SoFar}
use Rattle.pf_addr.proofs.ipv6_text.read_groups.Given as goal

abbrev pub invariant-loop-colon : goal.invariant-loop-colon
invariant-loop-colon l = SoFar group_at (end_at l.ends) 58 groups_of l.fn.at l.text l.groups l.at l.rest

abbrev pub decreases-loop-colon : goal.decreases-loop-colon
decreases-loop-colon l = length l.rest
