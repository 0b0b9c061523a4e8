use Rattle.std.proofs.Common.{◌≡◌, ◌-◌, length, drop}
use Rattle.pf_load.proofs.changes.common_back.Given as goal

abbrev pub invariant-loop-count : goal.invariant-loop-count
invariant-loop-count l = drop (length l.old - l.count) l.old ≡ drop (length l.new - l.count) l.new
