use Rattle.std.proofs.Common.{subst, sym}
use Rattle.pf_book.specs.{Books.{PlainBook, world_book}, Courses.IsPlanned, Groups.{IsGroupOf, result_list}}
use Rattle.pf_book.proofs.{Alone.due-as-alone, Grouping.refused-of}
use Rattle.pf_book.proofs.book.Book.answer_as_alone.Goals as goal

pub answer_course-requires : goal.answer_course-requires
answer_course-requires g c =
    subst (λ (l : PlainBook g.row.D.Denot). IsPlanned (world_book l) c.args.commands.now c.in-Ok.course.replies.items c.in-Ok.course.changes.items c.in-Ok.course.next) (sym c.plan.ensures.same) c.in-Ok.ensures.planned

pub returns-then-course-clause-group : goal.returns-then-course-clause-group
returns-then-course-clause-group g c =
    let group : IsGroupOf g.D.Disk c.args.self.now c.answer_course.new.self c.args.commands.now (result_list c.answer_course.result) =
    subst (λ (l : PlainBook g.row.D.Denot). IsGroupOf g.D.Disk l c.answer_course.new.self c.args.commands.now (result_list c.answer_course.result)) c.plan.ensures.same c.answer_course.ensures in
    record {
      group = group;
      in_turn = λ h at. due-as-alone h c.args.self.now c.args.commands.now (result_list c.answer_course.result) at c.in-Ok.ensures.planned (c.in-Ok.ensures.each.0 c.if-course.true) _ _ (group.call.leads h at);
    }

pub returns-in-Err-clause-group : goal.returns-in-Err-clause-group
returns-in-Err-clause-group g c = record { group = refused-of c.in-Err.ensures.refused; in_turn = λ h at. tt }
