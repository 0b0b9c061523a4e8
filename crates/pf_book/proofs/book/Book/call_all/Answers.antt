use Rattle.std.proofs.Common.{sym, subst}
use Rattle.pf_book.specs.{Books.{PlainBook, replied, world_book}, Courses.IsPlanned, Groups.IsGroupCall}
use Rattle.pf_book.proofs.book.Book.call_all.Goals as goal

pub finish-requires : goal.finish-requires
finish-requires g c = subst (λ (l : PlainBook g.row.D.Denot). IsPlanned (world_book l) c.args.commands.now c.in-Ok.course.replies.items c.in-Ok.course.changes.items c.in-Ok.course.next) (sym c.plan.ensures.same) c.in-Ok.ensures.planned

pub returns-in-Ok : goal.returns-in-Ok
returns-in-Ok g c = subst (λ (l : PlainBook g.row.D.Denot). IsGroupCall g.D.Disk l c.finish.new.self c.args.commands.now (replied c.finish.result)) c.plan.ensures.same c.finish.ensures.call

pub returns-in-Err : goal.returns-in-Err
returns-in-Err g c = c.in-Err.ensures.refused
