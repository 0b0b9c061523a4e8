use Rattle.std.proofs.Common.{◌≡◌, length, sym, subst}
use Rattle.std.specs.Option.{option_copied}
use Rattle.pf_store.specs.Banks.{bank_size}
use Rattle.pf_book.specs.{Books.{PlainBook, world_book}, Receipts.IsReached, Statuses.status_of}
use Rattle.pf_book.proofs.Saying.{said}
use Rattle.pf_book.proofs.shared.Locked.status.Goals as goal

pub invariant_of-self : goal.invariant_of-self
invariant_of-self g c =
    subst (λ (b : PlainBook g.row.D.Denot). IsReached g.J.Naming.base g.J.Chapter.setting (world_book b)) (sym c.look_at.ensures.same) c.self.invariant

pub returns-clause-says : goal.returns-clause-says
returns-clause-says g c =
    let old = c.self.inside.book in
    let new = c.look_at.new.self in
    let size = bank_size (length (g.D.Disk.seen new.disk)) in
    said g.J.Naming.base g.J.Chapter.setting (world_book old) size c.status.result (option_copied c.args.last) c.self.invariant c.look_at.ensures.last
    (subst (λ (b : PlainBook g.row.D.Denot). c.status.result ≡ status_of (world_book b) size) c.look_at.ensures.same c.status.ensures)
