use Rattle.std.proofs.Common.{subst}
use Rattle.std.specs.Prelude.{All}
use Rattle.pf_book.specs.{Books.{PlainBook, world_book}, Receipts.TakesUp}
use Rattle.pf_book.proofs.shared.Locked.look_at_each.Goals as goal

pub returns-clause-each : goal.returns-clause-each
returns-clause-each g c = subst (λ (b : PlainBook g.row.D.Denot). All (λ l. TakesUp l (world_book b)) c.args.lasts.now) c.self.view_is c.look_at_each.ensures.each
