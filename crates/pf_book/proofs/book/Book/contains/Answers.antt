use Rattle.pf_book.proofs.OpenedBooks.{begins-of, within-of}
use Rattle.pf_book.proofs.book.Book.contains.Goals as goal

pub returns-clause-begins : goal.returns-clause-begins
returns-clause-begins g c = begins-of c.self.invariant c.self.view_is c.args.front.now c.contains.ensures.begins

pub returns-clause-acked : goal.returns-clause-acked
returns-clause-acked g c = within-of c.self.invariant c.self.view_is c.args.front.now c.contains.ensures.begins
