use Rattle.std.proofs.Common.{sym, ◌∙◌, subst}
use Rattle.std.specs.Prelude.{nat_lt}
use Rattle.pf_core.specs.Worlds.{Upshot, upshot}
use Rattle.pf_book.specs.{Books.{PlainBook, world_book}, Groups.{IsGroupAsAlone, result_list}, Receipts.{IsReached, TakesUp}}
use Rattle.pf_book.proofs.LockedCalls.{group-as-alone, reached-too}
use Rattle.pf_book.proofs.shared.Locked.group_as_alone.Goals as goal

pub invariant_of-self-2 : goal.invariant_of-self-2
invariant_of-self-2 g c =
    let old = c.self.inside.book in
    let new = c.answer_as_alone.new.self in
    let t : Upshot = upshot new.shown (nat_lt (g.D.Disk.fault_count old.disk) (g.D.Disk.fault_count new.disk)) in
    let e = c.in-Some.ensures.group.group in
    reached-too g.J.Naming.base g.J.Chapter.setting (world_book old) (world_book new) c.args.commands.now (result_list c.in-Some.answers) t c.self.invariant e.call.leads c.between_calls.ensures.folded e.call.opening.base e.call.opening.setting

pub invariant_of-self : goal.invariant_of-self
invariant_of-self g c =
    subst (λ (l : PlainBook g.row.D.Denot). IsReached g.J.Naming.base g.J.Chapter.setting (world_book l)) (sym (c.answer_as_alone.ensures.none c.in_default.is)) c.self.invariant

pub returns-clause-answered : goal.returns-clause-answered
returns-clause-answered g c = λ last taken.
    let old = c.self.inside.book in
    let new = c.answer_as_alone.new.self in
    let t : Upshot = upshot new.shown (nat_lt (g.D.Disk.fault_count old.disk) (g.D.Disk.fault_count new.disk)) in
    let e = c.in-Some.ensures.group.group in
    let takes : TakesUp last (world_book old) = subst (λ (l : PlainBook g.row.D.Denot). TakesUp last (world_book l)) (sym c.self.view_is) taken in
    group-as-alone g.J.Naming.base g.J.Chapter.setting (world_book old) (world_book new) c.args.commands.now (result_list c.in-Some.answers) t c.self.invariant e.call.leads c.between_calls.ensures.folded last e.receipts e.shown takes c.in-Some.ensures.group.in_turn

pub returns-clause-group : goal.returns-clause-group
returns-clause-group g c = subst (λ (l : PlainBook g.row.D.Denot). IsGroupAsAlone g.D.Disk l c.answer_as_alone.new.self c.args.commands.now (result_list c.in-Some.answers)) c.self.view_is c.in-Some.ensures.group

pub returns-in_default-clause-none : goal.returns-in_default-clause-none
returns-in_default-clause-none g c = λ is. c.answer_as_alone.ensures.none c.in_default.is ∙ c.self.view_is
