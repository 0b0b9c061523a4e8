use Rattle.std.proofs.Common.{◌≡◌, ◌++◌, length, map}
use Rattle.pf_map.specs.MapParts.{joined}
use Rattle.pf_map.proofs.raised.leaves.Given as goal

abbrev pub invariant-loop-rest : goal.invariant-loop-rest
invariant-loop-rest g l = joined l.pages.items ++ map g.E.Holder.pair l.rest ≡ map g.E.Holder.pair l.entries

abbrev pub decreases-loop-rest : goal.decreases-loop-rest
decreases-loop-rest g l = length l.rest
