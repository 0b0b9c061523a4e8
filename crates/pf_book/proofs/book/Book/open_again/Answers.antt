use Rattle.std.proofs.Common.{sym, subst}
use Rattle.pf_core.specs.Durable.Changes.{PlainDurable}
use Rattle.pf_store.specs.StoreKept.{Stands}
use Rattle.pf_book.proofs.book.Book.open_again.Goals as goal

pub open_again-requires-clause-stands : goal.open_again-requires-clause-stands
open_again-requires-clause-stands g c going =
    subst (λ (k : PlainDurable). Stands g.D.Disk.seen g.D.Disk.unsynced c.take_apart-store.result.0 k) (sym c.deref.ensures) (c.take_apart-store.ensures.stands going)

-- the store's device is the Book's
pub returns-clause-opened : goal.returns-clause-opened
returns-clause-opened g c = rw c.take_apart-store.ensures.device at c.open_again.ensures.opened

pub returns-clause-generation : goal.returns-clause-generation
returns-clause-generation g c = rw c.take_apart-store.ensures.device at c.open_again.ensures.generation

pub returns-clause-room : goal.returns-clause-room
returns-clause-room g c = rw c.take_apart-store.ensures.device at c.open_again.ensures.room

pub returns-clause-refused : goal.returns-clause-refused
returns-clause-refused g c = rw c.take_apart-store.ensures.device at c.open_again.ensures.refused

pub returns-clause-untouched : goal.returns-clause-untouched
returns-clause-untouched g c = rw c.take_apart-store.ensures.device at c.open_again.ensures.untouched

pub returns-clause-unchanged_at_bad_size : goal.returns-clause-unchanged_at_bad_size
returns-clause-unchanged_at_bad_size g c = rw c.take_apart-store.ensures.device at c.open_again.ensures.unchanged_at_bad_size

pub returns-clause-writes : goal.returns-clause-writes
returns-clause-writes g c = rw c.take_apart-store.ensures.device at c.open_again.ensures.writes
