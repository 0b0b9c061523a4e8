use Rattle.std.proofs.Common.{◌≡◌, take}
use Rattle.std.specs.Prelude.{fold}
use Rattle.pf_map.specs.Maps.{with_entry}
use Rattle.pf_map.proofs.paged_map.PagedMap.with.Given as goal

abbrev pub invariant-loop-change : goal.invariant-loop-change
invariant-loop-change g l = l.map ≡ fold (with_entry g.K.Key.order g.V.Content.kept) l.self (take l.change-index l.changes)
