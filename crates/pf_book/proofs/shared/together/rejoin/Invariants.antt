use Rattle.std.proofs.Common.{◌≡◌, ◌+◌, ◌≤◌, ◌++◌, length, map, vec_len, vec_capacity}
use Rattle.std.specs.Vec.Iter.{into_iter_items, into_iter_len}
use Rattle.pf_book.proofs.shared.together.rejoin.Given as goal

-- what is joined so far, with the parts that are left
abbrev pub invariant-loop-command : goal.invariant-loop-command
invariant-loop-command g l = record {
  len : into_iter_len l.command-iterator ≡ length (into_iter_items l.command-iterator);
  same : length (into_iter_items l.lasts) ≡ length (into_iter_items l.command-iterator);
  commands : map (λ a. a.command) l.asked.items ++ into_iter_items l.command-iterator ≡ into_iter_items l.initial.command-iterator;
  lasts : map (λ a. a.last) l.asked.items ++ into_iter_items l.lasts ≡ into_iter_items l.initial.lasts;
  room : vec_len l.asked + length (into_iter_items l.command-iterator) ≤ vec_capacity l.asked;
}
