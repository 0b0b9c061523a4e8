use Rattle.std.proofs.{Common.{◌≡◌, ◌≤◌, List, length, map, sym, ap, ◌∙◌, subst, arith}, lemmas.Bool.le-leb, lemmas.Grind.common_steps, lemmas.List.length-take-le}
use Rattle.std.specs.{Arc.arc_value, Option.ForSome}
use Rattle.pf_core.specs.Durable.Changes.{PlainChange}
use Rattle.pf_book.specs.{Books.{world_book, log_in}, Receipts.{PlainReceipt, EndsIn}}
use Rattle.pf_view.proofs.Prefixes.{prefix_length}
use Rattle.pf_book.proofs.{Confirming.confirmed, OpenedBooks.log-of}
use Rattle.pf_book.proofs.book.Book.confirm.Goals as goal

pub returns-clause-yes : goal.returns-clause-yes
returns-clause-yes g c =
    let log : List PlainChange = map arc_value c.self.inside.log.items in
    let whole : log_in (world_book c.args.self.now) ≡ log = log-of c.self.invariant (c.self.view_is ∙ c.begins_with.ensures.same) in
    let counted : c.len.result ≡ length log = grind (arith, common_steps, c.len.ensures) in
    let seq : c.receipt.inside.seq ≡ length c.args.receipt.now.front = sym (length-take-le c.receipt.inside.seq c.receipt.inside.front.front c.receipt.invariant.within) ∙ ap (λ (x : PlainReceipt). length x.front) c.receipt.view_is in
    let short : length c.args.receipt.now.front ≤ length (log_in (world_book c.args.self.now)) = prefix_length c.args.receipt.now.front (log_in (world_book c.args.self.now)) c.begins_with.ensures.begins in
    le-leb c.receipt.inside.seq c.len.result (omega (arith, seq, short, ap length whole, counted))

pub returns-clause-exact : goal.returns-clause-exact
returns-clause-exact g c =
    let r = c.args.receipt.now in
    let last : ForSome r.change (λ e. EndsIn r.front e) = subst (λ (x : PlainReceipt). ForSome x.change (λ e. EndsIn x.front e)) c.receipt.view_is c.receipt.invariant.last in
    (λ _. confirmed (log_in (world_book c.args.self.now)) r.front r.change c.begins_with.ensures.begins last, λ _. returns-clause-yes g c)
