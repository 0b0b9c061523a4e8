use Rattle.std.proofs.Common.{◌∙◌, Err, subst, sym}
use Rattle.pf_book.specs.{Books.{PlainBook, world_book}, Courses.IsPlanned, Groups.{IsGroupOf, result_list}}
use Rattle.pf_book.proofs.Grouping.{refused-of}
use Rattle.pf_book.proofs.book.Book.answer_all.Goals as goal

pub answer_course-requires : goal.answer_course-requires
answer_course-requires g c =
    subst (λ (l : PlainBook g.row.D.Denot). IsPlanned (world_book l) c.args.commands.now c.in-Ok.course.replies.items c.in-Ok.course.changes.items c.in-Ok.course.next) (sym c.plan.ensures.same) c.in-Ok.ensures.planned

pub returns-in-Ok-clause-group : goal.returns-in-Ok-clause-group
returns-in-Ok-clause-group g c =
    subst (λ (l : PlainBook g.row.D.Denot). IsGroupOf g.D.Disk l c.answer_course.new.self c.args.commands.now (result_list c.answer_course.result)) (c.plan.ensures.same ∙ c.look_at.ensures.same) c.answer_course.ensures

pub returns-in-Err-clause-group : goal.returns-in-Err-clause-group
returns-in-Err-clause-group g c = subst (λ (l : PlainBook g.row.D.Denot). IsGroupOf g.D.Disk l c.plan.new.self c.args.commands.now (Err c.in-Err.refusal)) c.look_at.ensures.same (refused-of c.in-Err.ensures.refused)
