use Rattle.std.proofs.Common.{◌≡◌, take}
use Rattle.pf_load.proofs.changes.common_front.Given as goal

abbrev pub invariant-loop-at : goal.invariant-loop-at
invariant-loop-at l = take l.at l.old ≡ take l.at l.new
