use Rattle.std.proofs.Common.{◌≡◌, ◌+◌, ◌++◌, length, map, if◌then◌else◌}
use Rattle.std.specs.Arc.{arc_value}
use Rattle.std.specs.Vec.Iter.{into_iter_items, into_iter_len}
use Rattle.pf_book.proofs.saving.note_all.Given as goal

-- what was noted so far, and the changes that are left
abbrev pub invariant-loop-change : goal.invariant-loop-change
invariant-loop-change g l = record {
  all : l.yielded ++ into_iter_items l.change-iterator ≡ into_iter_items l.initial.change-iterator;
  len : into_iter_len l.change-iterator ≡ length (into_iter_items l.change-iterator);
  front : l.tip.front ≡ l.fn.tip.front ++ map arc_value l.yielded;
  acked : l.tip.acked ≡ l.fn.tip.acked + (if l.acked then length l.yielded else 0);
  shown : l.tip.shown ≡ l.fn.tip.shown;
}
