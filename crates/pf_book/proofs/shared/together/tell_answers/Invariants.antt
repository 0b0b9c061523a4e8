use Rattle.std.proofs.Common.{◌≡◌, ◌+◌, ◌≤◌, ◌++◌, length, map, Ok, vec_len, vec_capacity}
use Rattle.std.specs.Vec.Iter.{into_iter_items, into_iter_len}
use Rattle.pf_book.proofs.shared.together.tell_answers.Given as goal

abbrev pub invariant-loop-answer : goal.invariant-loop-answer
invariant-loop-answer g l = record {
  all : l.yielded ++ into_iter_items l.answer-iterator ≡ into_iter_items l.initial.answer-iterator;
  len : into_iter_len l.answer-iterator ≡ length (into_iter_items l.answer-iterator);
  reported : l.reported.items ≡ map Ok l.yielded;
  room : vec_len l.reported + length (into_iter_items l.answer-iterator) ≤ vec_capacity l.reported;
}
