use Rattle.std.proofs.Common.{subst}
use Rattle.std.specs.{Option.option_copied, Prelude.nat_lt}
use Rattle.pf_core.specs.Worlds.{Upshot, upshot}
use Rattle.pf_book.specs.{Books.{PlainBook, world_book}, Groups.{IsGroupOf, result_list}}
use Rattle.pf_book.proofs.LockedCalls.{group-answered, reached-too}
use Rattle.pf_book.proofs.shared.Locked.group.Goals as goal

pub invariant_of-self : goal.invariant_of-self
invariant_of-self g c =
    let old = c.self.inside.book in
    let new = c.answer_all-answers.new.self in
    let t : Upshot = upshot new.shown (nat_lt (g.D.Disk.fault_count old.disk) (g.D.Disk.fault_count new.disk)) in
    let e = c.answer_all-answers.ensures.group in
    reached-too g.J.Naming.base g.J.Chapter.setting (world_book old) (world_book new) c.args.commands.now (result_list c.answer_all-answers.result) t c.self.invariant e.call.leads c.between_calls.ensures.folded e.call.opening.base e.call.opening.setting

pub returns-clause-answered : goal.returns-clause-answered
returns-clause-answered g c =
    let old = c.self.inside.book in
    let new = c.answer_all-answers.new.self in
    let t : Upshot = upshot new.shown (nat_lt (g.D.Disk.fault_count old.disk) (g.D.Disk.fault_count new.disk)) in
    let e = c.answer_all-answers.ensures.group in
    group-answered g.J.Naming.base g.J.Chapter.setting (world_book old) (world_book new) c.args.commands.now (result_list c.answer_all-answers.result) t c.self.invariant e.call.leads c.between_calls.ensures.folded (option_copied c.args.last) e.receipts e.shown c.answer_all-answers.ensures.last

pub returns-clause-group : goal.returns-clause-group
returns-clause-group g c = subst (λ (l : PlainBook g.row.D.Denot). IsGroupOf g.D.Disk l c.answer_all-answers.new.self c.args.commands.now (result_list c.answer_all-answers.result)) c.self.view_is c.answer_all-answers.ensures.group
