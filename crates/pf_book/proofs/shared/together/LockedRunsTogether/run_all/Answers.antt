use Rattle.std.proofs.{Common.{◌∙◌, List, length, Option, Ok, Err, sym, ap, subst, arith}, lemmas.{Grind.common_steps, List.length-map}}
use Rattle.std.specs.Prelude.{All}
use Rattle.pf_core.specs.declared.{reply.Refusal.TheVariants.Fault}
use Rattle.pf_book.specs.{Books.{PlainBook, world_book}, Groups.{Answered, IsAnsweredAsAlone}, Receipts.{PlainReceipt, TakesUp}}
use Rattle.pf_book.proofs.Joining.{all-answered, all-failed, one-each, same-asked}
use Rattle.pf_book.proofs.shared.together.LockedRunsTogether.run_all.Given.{Over}
use Rattle.pf_book.proofs.shared.together.LockedRunsTogether.run_all.Goals.{After-group_as_alone}
use Rattle.pf_book.proofs.shared.together.LockedRunsTogether.run_all.Goals as goal

-- the receipts that were handed in are taken up by what was there
taken : (g : Over) (c : After-group_as_alone g) → All (λ l. TakesUp l (world_book c.args.self.now)) c.part.new.lasts.items
taken g c = subst (λ (ls : List (Option PlainReceipt)). All (λ l. TakesUp l (world_book c.args.self.now)) ls) c.deref.ensures.value c.look_at_each.ensures.each

pub returns-in-Some-Ok-clause-answered : goal.returns-in-Some-Ok-clause-answered
returns-in-Some-Ok-clause-answered g c =
    let now = (goal.at.returns-in-Some-Ok-clause-answered g c).After-group_as_alone in
    all-answered g.J.Naming.base g.J.Chapter.setting (world_book c.args.self.now) c.args.asked.items c.deref-2.result.now c.part.new.lasts.items (c.deref-2.ensures.value ∙ c.part.ensures.commands) c.part.ensures.lasts (taken g now)
    c.in-Some-Ok.answers.items (λ last takes. (rw c.in-Some-Ok.field-0-is at c.in-Some-Ok.ensures.answered) last (subst (λ (b : PlainBook g.row.D.Denot). TakesUp last (world_book b)) (sym c.look_at_each.ensures.same) takes))
    c.tell_answers.new.reported.items c.tell_answers.ensures

pub returns-in-Some-Ok-clause-each : goal.returns-in-Some-Ok-clause-each
returns-in-Some-Ok-clause-each g c =
    let now = (goal.at.returns-in-Some-Ok-clause-each g c).After-group_as_alone in
    let each = one-each g.J.Naming.base g.J.Chapter.setting (world_book c.args.self.now) c.args.asked.items c.deref-2.result.now c.part.new.lasts.items (c.deref-2.ensures.value ∙ c.part.ensures.commands) c.part.ensures.lasts (taken g now)
    c.in-Some-Ok.answers.items (λ last takes. (rw c.in-Some-Ok.field-0-is at c.in-Some-Ok.ensures.answered) last (subst (λ (b : PlainBook g.row.D.Denot). TakesUp last (world_book b)) (sym c.look_at_each.ensures.same) takes)) in
    ap length c.tell_answers.ensures ∙ length-map c.in-Some-Ok.answers.items (λ (x : Answered). Ok x) ∙ each

pub tell_answers-requires-clause-room : goal.tell_answers-requires-clause-room
tell_answers-requires-clause-room g c =
    let now = (goal.at.tell_answers-requires-clause-room g c).After-group_as_alone in
    let each = one-each g.J.Naming.base g.J.Chapter.setting (world_book c.args.self.now) c.args.asked.items c.deref-2.result.now c.part.new.lasts.items (c.deref-2.ensures.value ∙ c.part.ensures.commands) c.part.ensures.lasts (taken g now)
    c.in-Some-Ok.answers.items (λ last takes. (rw c.in-Some-Ok.field-0-is at c.in-Some-Ok.ensures.answered) last (subst (λ (b : PlainBook g.row.D.Denot). TakesUp last (world_book b)) (sym c.look_at_each.ensures.same) takes)) in
    let room = c.in-Ok.ensures.reported.1 in
    let many = c.len.ensures in
    grind (arith, common_steps, each, room, many)

pub returns-in-Some-Err-Fault-clause-answered : goal.returns-in-Some-Err-Fault-clause-answered
returns-in-Some-Err-Fault-clause-answered g c =
    let now = (goal.at.returns-in-Some-Err-Fault-clause-answered g c).After-group_as_alone in
    let failed : (last : Option PlainReceipt) → TakesUp last (world_book c.look_at_each.new.self) → IsAnsweredAsAlone g.J.Naming.base g.J.Chapter.setting c.deref-2.result.now (Err Fault) last =
    rw (c.in-Some-Err-Fault.field-0-is, c.in-Some-Err-Fault.field-0-0-is) at c.in-Some-Err-Fault.ensures.answered in
    all-failed g.J.Naming.base g.J.Chapter.setting (world_book c.args.self.now) c.args.asked.items c.deref-2.result.now c.part.new.lasts.items (c.deref-2.ensures.value ∙ c.part.ensures.commands) c.part.ensures.lasts (taken g now)
    (λ last takes. (failed last (subst (λ (b : PlainBook g.row.D.Denot). TakesUp last (world_book b)) (sym c.look_at_each.ensures.same) takes)).group)
    c.give_back.new.reported.items c.give_back.ensures

pub returns-in-Some-Err : goal.returns-in-Some-Err
returns-in-Some-Err g c = record {
  each = tt;
  answered = tt;
  back = same-asked c.rejoin.new.asked.items c.args.asked.items (c.rejoin.ensures.commands ∙ c.part.ensures.commands) (c.rejoin.ensures.lasts ∙ c.part.ensures.lasts);
}
