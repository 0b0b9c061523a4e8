use Rattle.std.proofs.Common.{◌≡◌, ◌+◌, ◌≤◌, ◌++◌, length, map, Err, vec_len, vec_capacity}
use Rattle.std.specs.Vec.Iter.{into_iter_items, into_iter_len}
use Rattle.pf_book.proofs.shared.together.give_back.Given as goal

abbrev pub invariant-loop-last : goal.invariant-loop-last
invariant-loop-last g l = record {
  all : l.yielded ++ into_iter_items l.last-iterator ≡ into_iter_items l.initial.last-iterator;
  len : into_iter_len l.last-iterator ≡ length (into_iter_items l.last-iterator);
  reported : l.reported.items ≡ map Err l.yielded;
  room : vec_len l.reported + length (into_iter_items l.last-iterator) ≤ vec_capacity l.reported;
}
