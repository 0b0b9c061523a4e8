use Rattle.std.proofs.Common.{◌≡◌, take}
use Rattle.std.specs.Prelude.{All}
use Rattle.pf_book.specs.{Books.world_book, Receipts.TakesUp}
use Rattle.pf_book.proofs.book.Book.look_at_each.Given as goal

abbrev pub invariant-loop-last : goal.invariant-loop-last
invariant-loop-last g l = record {
  same : l.self ≡ l.fn.self;
  each : All (λ o. TakesUp o (world_book l.fn.self)) (take l.last-index l.lasts);
}
