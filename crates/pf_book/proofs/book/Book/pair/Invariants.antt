use Rattle.std.proofs.Common.{◌≡◌, ◌+◌, ◌≤◌, ◌++◌, length, map, drop, vec_len, vec_capacity}
use Rattle.std.specs.{Arc.arc_value, List.AllByRecursion, Vec.Iter.{into_iter_items, into_iter_len}}
use Rattle.pf_book.specs.{Books.{world_book, log_in}, Pairs.{kept_count, paired}, Receipts.ShownFits}
use Rattle.pf_book.proofs.book.Book.pair.Given as goal

-- the answers so far, with those to the replies that are left, are all the answers
abbrev pub invariant-loop-reply : goal.invariant-loop-reply
invariant-loop-reply g l = record {
  all : l.yielded ++ into_iter_items l.reply-iterator ≡ into_iter_items l.initial.reply-iterator;
  len : into_iter_len l.reply-iterator ≡ length (into_iter_items l.reply-iterator);
  reported : l.answers.items ++ paired l.self.shown (log_in (world_book l.self)) l.seq (into_iter_items l.reply-iterator) (map arc_value (into_iter_items l.given)) ≡ paired l.self.shown (log_in (world_book l.self)) l.before (into_iter_items l.initial.reply-iterator) (map arc_value (into_iter_items l.initial.given));
  given : drop l.seq (log_in (world_book l.self)) ≡ map arc_value (into_iter_items l.given);
  within : l.seq ≤ length (log_in (world_book l.self));
  kept : kept_count (into_iter_items l.reply-iterator) ≡ length (map arc_value (into_iter_items l.given));
  shown : AllByRecursion (λ r. ShownFits r l.self.shown (length (log_in (world_book l.self)))) (into_iter_items l.reply-iterator);
  room : vec_len l.answers + length (into_iter_items l.reply-iterator) ≤ vec_capacity l.answers;
}
