use Rattle.std.proofs.Common.{◌≤◌, ◌∙◌, ℕ, Option, length, take, sym, ap, subst, arith}
use Rattle.std.specs.{Arc.arc_value, Option.{ForSome, option_map}}
use Rattle.pf_core.specs.{Durable.Changes.PlainChange, Worlds.flat}
use Rattle.pf_book.specs.{Books.{PlainBook, log_in, world_book}, Receipts.{EndsIn, IsCall, PlainReceipt, receipt_of}}
use Rattle.pf_book.proofs.{LockedCalls.{given-last, shown-fits}, Calling.{own, own-at}}
use Rattle.pf_book.proofs.book.Book.answer.Goals as goal

pub receipt-receipt-requires-clause-last : goal.receipt-receipt-requires-clause-last
receipt-receipt-requires-clause-last g c =
    let new = world_book c.call-reply.new.self in
    let change = option_map arc_value c.call-reply.result.1 in
    subst (λ (n : ℕ). ForSome change (λ e. EndsIn (take n (log_in new)) e × (n ≤ length (flat new.acked)))) (sym c.log_len.ensures) (given-last c.call-reply.result.0 change (world_book c.look_at.new.self) new c.call-reply.ensures.given)

pub receipt-receipt-requires-clause-within : goal.receipt-receipt-requires-clause-within
receipt-receipt-requires-clause-within g c = omega (arith, c.log_len.ensures)

pub receipt-receipt-requires-clause-shown : goal.receipt-receipt-requires-clause-shown
receipt-receipt-requires-clause-shown g c =
    let before = world_book c.look_at.new.self in
    let e = c.call-reply.ensures in
    shown-fits c.call-reply.result.0 (option_map arc_value c.call-reply.result.1) before.shown before (world_book c.call-reply.new.self) (e.leads (own before) (own-at before)).legal.shown e.numbered e.given

-- a receipt that is handed in changes nothing
pub returns-clause-call : goal.returns-clause-call
returns-clause-call g c =
    let new = c.call-reply.new.self in
    subst (λ (l : PlainBook g.row.D.Denot). IsCall g.D.Disk l new c.args.command.now c.call-reply.result.0 c.receipt-receipt.result.change) c.look_at.ensures.same
    (subst (IsCall g.D.Disk c.look_at.new.self new c.args.command.now c.call-reply.result.0) (sym (ap (λ (s : PlainReceipt). s.change) c.receipt-receipt.ensures)) c.call-reply.ensures)

pub returns-clause-receipt : goal.returns-clause-receipt
returns-clause-receipt g c =
    let b = world_book c.call-reply.new.self in
    let r = c.call-reply.result.0 in
    c.receipt-receipt.ensures ∙ ap (λ (n : ℕ). receipt_of b n (option_map arc_value c.call-reply.result.1) r) c.log_len.ensures
    ∙ ap (λ (e : Option PlainChange). receipt_of b (length (log_in b)) e r) (sym (ap (λ (s : PlainReceipt). s.change) c.receipt-receipt.ensures))

pub returns-clause-last : goal.returns-clause-last
returns-clause-last g c = c.look_at.ensures.last
