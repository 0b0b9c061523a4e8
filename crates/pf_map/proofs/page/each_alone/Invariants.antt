use Rattle.std.proofs.Common.{◌≡◌, take, map}
use Rattle.pf_map.specs.MapParts.{joined}
use Rattle.pf_map.proofs.page.each_alone.Given as goal

abbrev pub invariant-loop-entry : goal.invariant-loop-entry
invariant-loop-entry g l = joined l.slots.items ≡ map g.E.Holder.pair (take l.entry-index l.entries)
