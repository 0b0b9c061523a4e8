use Rattle.std.proofs.Common.{subst}
use Rattle.pf_book.specs.Books.{IsOpenable}
use Rattle.pf_book.proofs.OpenedBooks.{images-of, folded-of}
use Rattle.pf_book.proofs.book.Book.between_calls.Goals as goal

pub returns-clause-images : goal.returns-clause-images
returns-clause-images g c = images-of c.self.invariant c.self.view_is

pub returns-clause-openable : goal.returns-clause-openable
returns-clause-openable g c =
    subst (IsOpenable g.D.Disk.seen g.D.Disk.unsynced) c.self.view_is (record { generations = c.self.invariant.generations; roomy = c.self.invariant.roomy })

pub returns-clause-folded : goal.returns-clause-folded
returns-clause-folded g c = folded-of c.self.invariant c.self.view_is
