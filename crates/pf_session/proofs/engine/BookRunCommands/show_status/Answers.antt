use Rattle.std.proofs.Common.{length, refl}
use Rattle.pf_store.specs.Banks.{bank_size}
use Rattle.pf_book.specs.{Books.world_book, Statuses.status_of}
use Rattle.pf_session.specs.Statuses.{shown_text}
use Rattle.pf_session.proofs.engine.BookRunCommands.show_status.Goals as goal

pub returns : goal.returns
returns g c =
    let book = c.args.self.now in
    let size = bank_size (length (g.D.Disk.seen book.disk)) in
    (shown_text (status_of (world_book book) size) 1, record { size = size; reported = refl; same = refl }, rw c.status.ensures at c.show.ensures)
