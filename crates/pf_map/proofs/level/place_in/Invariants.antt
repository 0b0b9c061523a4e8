use Rattle.std.proofs.Common.{◌-◌}
use Rattle.pf_map.proofs.MapParts.{IsBetween}
use Rattle.pf_map.proofs.level.place_in.Given as goal

abbrev pub invariant-halving : goal.invariant-halving
invariant-halving g l = IsBetween g.K.Key.order (g.Q.Sought.key l.sought) l.slots l.low l.high

abbrev pub decreases-halving : goal.decreases-halving
decreases-halving g l = l.high - l.low
