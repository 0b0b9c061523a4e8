use Rattle.std.proofs.Common.{◌≡◌, ◌+◌, ◌≤◌, ◌++◌, length, map, vec_len, vec_capacity}
use Rattle.std.specs.Vec.Iter.{into_iter_items, into_iter_len}
use Rattle.pf_book.proofs.shared.together.part.Given as goal

-- the parts of what was taken so far
abbrev pub invariant-loop-one : goal.invariant-loop-one
invariant-loop-one g l = record {
  all : l.yielded ++ into_iter_items l.one-iterator ≡ into_iter_items l.initial.one-iterator;
  len : into_iter_len l.one-iterator ≡ length (into_iter_items l.one-iterator);
  commands : l.commands.items ≡ map (λ a. a.command) l.yielded;
  lasts : l.lasts.items ≡ map (λ a. a.last) l.yielded;
  command_room : vec_len l.commands + length (into_iter_items l.one-iterator) ≤ vec_capacity l.commands;
  last_room : vec_len l.lasts + length (into_iter_items l.one-iterator) ≤ vec_capacity l.lasts;
}
