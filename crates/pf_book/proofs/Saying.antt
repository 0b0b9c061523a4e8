-- What a Book says of itself under the lock.
use Rattle.std.proofs.Common.{◌≡◌, ◌∙◌, ℕ, Option, sym, ap}
use Rattle.pf_core.specs.{Durable.Changes.PlainDurable, WorldBooks.WorldBook, Worlds.Setting}
use Rattle.pf_book.specs.declared.status.BookStatus.{BookStatus}
use Rattle.pf_book.specs.{Receipts.{PlainReceipt, IsReached, TakesUp}, Statuses.{SaysStatus, status_of}}

pub said : (base : PlainDurable) (setting : Setting) (b : WorldBook) (size : ℕ) (status : BookStatus) (last : Option PlainReceipt)
    → IsReached base setting b → TakesUp last b → status ≡ status_of b size → SaysStatus base setting status last
said base setting b size status last reached takes is = record {
  book = b;
  reached = reached;
  takes = takes;
  is = is ∙ ap (status_of b) (sym (ap (λ (s : BookStatus). s.size) is));
}
