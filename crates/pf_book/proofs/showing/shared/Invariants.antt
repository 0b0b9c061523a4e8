use Rattle.std.proofs.Common.{◌≡◌, map, take}
use Rattle.std.specs.Arc.{arc_value}
use Rattle.pf_book.proofs.showing.shared.Given as goal

abbrev pub invariant-loop-change : goal.invariant-loop-change
invariant-loop-change l = map arc_value l.all.items ≡ map arc_value (take l.change-index l.changes)
