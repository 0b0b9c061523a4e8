use Rattle.std.proofs.Common.{ap, sym, subst, ◌∙◌, take}
use Rattle.pf_core.specs.{Durable.Changes.{PlainDurable}, Worlds.flat}
use Rattle.pf_store.specs.StoreKept.{Stands}
use Rattle.pf_book.specs.Books.{PlainBook}
use Rattle.pf_book.proofs.{HistoryGroups.flat-acked, OpenedBooks.parts}
use Rattle.pf_book.proofs.book.Book.take_apart.Goals as goal

pub returns-clause-device : goal.returns-clause-device
returns-clause-device g c = ap (λ (b : PlainBook g.row.D.Denot). b.disk) c.self.view_is

-- what is shared is what the core keeps, for which the store stands
pub returns-clause-stands : goal.returns-clause-stands
returns-clause-stands g c going =
    let i = c.self.invariant in
    subst (λ (k : PlainDurable). Stands g.D.Disk.seen g.D.Disk.unsynced c.self.inside.store k) (sym i.latest) (i.stands going)

pub returns-clause-acked : goal.returns-clause-acked
returns-clause-acked g c =
    let i = c.self.invariant in
    let p = parts i in
    ap (λ (n : _). take n p.tip.front) i.acked_is ∙ ap (take p.acked) i.log_is ∙ sym (flat-acked p.log p.sizes p.acked i.cuts) ∙ ap (λ (b : PlainBook g.row.D.Denot). flat b.acked) c.self.view_is
