use Rattle.std.proofs.Common.{sym, subst}
use Rattle.std.specs.Option.{option_copied}
use Rattle.pf_book.specs.{Books.{PlainBook, world_book}, Receipts.IsReached}
use Rattle.pf_book.proofs.Listing.{listed}
use Rattle.pf_book.proofs.shared.Locked.anchors_below.Goals as goal

pub invariant_of-self : goal.invariant_of-self
invariant_of-self g c =
    subst (λ (b : PlainBook g.row.D.Denot). IsReached g.J.Naming.base g.J.Chapter.setting (world_book b)) (sym c.look_at.ensures.same) c.self.invariant

pub returns-clause-says : goal.returns-clause-says
returns-clause-says g c =
    let old = c.self.inside.book in
    listed g.J.Naming.base g.J.Chapter.setting (world_book old) c.args.path.now c.anchors_below.result (option_copied c.args.last) c.self.invariant c.look_at.ensures.last
    (rw c.look_at.ensures.same at c.anchors_below.ensures)
