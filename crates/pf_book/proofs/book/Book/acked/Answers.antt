use Rattle.pf_book.proofs.OpenedBooks.{acked-of}
use Rattle.pf_book.proofs.book.Book.acked.Goals as goal

pub returns : goal.returns
returns g c = acked-of c.self.invariant c.self.view_is
