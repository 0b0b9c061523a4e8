use Rattle.std.proofs.Common.{◌≤◌, length, subst, arith}
use Rattle.std.specs.{Arc.arc_value, Option.{ForSome, option_map}}
use mathlib.Core.List.{IsPrefix}
use Rattle.pf_core.specs.Worlds.{flat}
use Rattle.pf_book.specs.{Books.{world_book, log_in}, Receipts.PlainReceipt}
use Rattle.pf_book.proofs.{Confirming.{begins-first, acked-too}, OpenedBooks.{begins-of, within-of}}
use Rattle.pf_book.proofs.book.Book.begins_with.Goals as goal

pub returns-clause-begins : goal.returns-clause-begins
returns-clause-begins g c =
    let r = c.receipt.inside in
    subst (λ (x : PlainReceipt). IsPrefix x.front (log_in (world_book c.args.self.now))) c.receipt.view_is (begins-first r.seq r.front.front _ (begins-of c.self.invariant c.self.view_is r.front c.contains.ensures.begins))

pub returns-clause-acked : goal.returns-clause-acked
returns-clause-acked g c =
    let before : c.receipt.inside.front.acked ≤ length (flat c.args.self.now.acked) = within-of c.self.invariant c.self.view_is c.receipt.inside.front c.contains.ensures.begins in
    subst (λ (r : PlainReceipt). r.acked ≤ length (flat c.args.self.now.acked)) c.receipt.view_is (omega (arith, before))

pub returns-clause-change : goal.returns-clause-change
returns-clause-change g c =
    let r = c.receipt.inside in
    subst (λ (x : PlainReceipt). ForSome x.change (λ e. length x.front ≤ length (flat c.args.self.now.acked))) c.receipt.view_is
    (acked-too r.front r.seq (option_map arc_value r.change) r.showing r.shown (length (flat c.args.self.now.acked)) (within-of c.self.invariant c.self.view_is r.front c.contains.ensures.begins) c.receipt.invariant)
