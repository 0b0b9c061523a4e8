use Rattle.std.proofs.Common.{refl, subst}
use Rattle.std.specs.{Option.option_copied, Prelude.nat_lt}
use Rattle.pf_core.specs.Worlds.{Upshot, upshot}
use Rattle.pf_book.specs.{Books.{PlainBook, world_book}, Receipts.IsCall}
use Rattle.pf_book.proofs.LockedCalls.{answered, reached-on}
use Rattle.pf_book.proofs.shared.Locked.run.Goals as goal

pub invariant_of-self : goal.invariant_of-self
invariant_of-self g c =
    let old = c.self.inside.book in
    let new = c.answer-answer.new.self in
    let t : Upshot = upshot new.shown (nat_lt (g.D.Disk.fault_count old.disk) (g.D.Disk.fault_count new.disk)) in
    let e = c.answer-answer.ensures.call in
    reached-on g.J.Naming.base g.J.Chapter.setting (world_book old) (world_book new) c.args.command.now c.answer-answer.result.0 t c.self.invariant e.leads c.between_calls.ensures.folded e.opening.base e.opening.setting

pub returns-clause-answered : goal.returns-clause-answered
returns-clause-answered g c =
    let old = c.self.inside.book in
    let new = c.answer-answer.new.self in
    let t : Upshot = upshot new.shown (nat_lt (g.D.Disk.fault_count old.disk) (g.D.Disk.fault_count new.disk)) in
    let e = c.answer-answer.ensures in
    answered g.J.Naming.base g.J.Chapter.setting (world_book old) (world_book new) c.args.command.now c.answer-answer.result.0 t c.self.invariant e.call.leads c.between_calls.ensures.folded c.answer-answer.result.1 (option_copied c.args.last) e.receipt refl e.call.given e.last

pub returns-clause-call : goal.returns-clause-call
returns-clause-call g c = subst (λ (l : PlainBook g.row.D.Denot). IsCall g.D.Disk l c.answer-answer.new.self c.args.command.now c.answer-answer.result.0 c.answer-answer.result.1.change) c.self.view_is c.answer-answer.ensures.call
