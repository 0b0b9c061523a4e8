use Rattle.std.proofs.lemmas.Result.{err_from_is_err_and}
use Rattle.std.proofs.Common.{◌↔◌, IsTrue, length, refl, subst}
use Rattle.pf_core.specs.declared.reply.Refusal.{TheVariants.Memory}
use Rattle.pf_core.specs.{Worlds.{flat, grouping}}
use Rattle.pf_book.specs.{Books.{IsBook, PlainBook, world_book}, Courses.{FindRoomEach, IsCourseOf}}
use Rattle.pf_book.proofs.{Coursing.well, Grouping.{begin-calm, begin-leads, begun-by, memory-refuses, refused-whole}, OpenedBooks.{parts, acked-of, core-of, folded-of, going-of, left-in, rests-of}}
use Rattle.pf_book.proofs.book.Book.plan.Given.{Over}
use Rattle.pf_book.proofs.book.Book.plan.Goals.{After-course_of}
use Rattle.pf_book.proofs.book.Book.plan.Goals as goal

pub returns-in_err-check_all-clause-planned : goal.returns-in_err-check_all-clause-planned
returns-in_err-check_all-clause-planned g c = let p = err_from_is_err_and c.from_residual.result c.from_residual.ensures.1 in rw (p.1) tt

pub returns-in_err-check_all-clause-each : goal.returns-in_err-check_all-clause-each
returns-in_err-check_all-clause-each g c = let p = err_from_is_err_and c.from_residual.result c.from_residual.ensures.1 in rw (p.1) tt

pub returns-in_err-check_all-clause-refused : goal.returns-in_err-check_all-clause-refused
returns-in_err-check_all-clause-refused g c =
    let p = err_from_is_err_and c.from_residual.result c.from_residual.ensures.1 in
    let now = c.args.self.now in
    let commands = c.args.commands.now in
    let why = c.in_err-check_all.field-0.0 in
    rw (p.1, p.2) (refused-whole g.D.Disk now now commands why refl (begin-calm (world_book now) commands why c.in_err-check_all.ensures) (λ h at. begin-leads h (world_book now) commands why at c.in_err-check_all.ensures)
    (rests-of g.D.Disk c.self.invariant c.self.view_is (g.met.D.Disk.only_now c.self.inside.store.disk) (left-in c.self.invariant c.self.view_is (grouping commands))))

pub course_of-requires-clause-may : goal.course_of-requires-clause-may
course_of-requires-clause-may g c = (well c.args.commands.now (begun-by (world_book c.args.self.now) c.args.commands.now c.in_ok-check_all.ensures).words).may

pub course_of-requires-clause-going : goal.course_of-requires-clause-going
course_of-requires-clause-going g c = going-of c.self.invariant c.self.view_is (begun-by (world_book c.args.self.now) c.args.commands.now c.in_ok-check_all.ensures).none

pub course_of-requires-clause-tickets : goal.course_of-requires-clause-tickets
course_of-requires-clause-tickets g c = c.self.invariant.tickets

-- the core is as it was
module _ (g : Over) (c : After-course_of g) where
  as-before : IsBook g.D.Disk.seen g.D.Disk.unsynced (record (parts c.self.invariant) { whole = c.course_of.new.core })
  as-before = rw c.course_of.ensures.same c.self.invariant

pub invariant_of-self : goal.invariant_of-self
invariant_of-self g c = as-before g (goal.at.invariant_of-self g c).After-course_of

pub returns-clause-planned : goal.returns-clause-planned
returns-clause-planned g c =
    let begun = begun-by (world_book c.args.self.now) c.args.commands.now c.in_ok-check_all.ensures in
    let course = c.in_ok-course.ensures.course in
    record {
      folded = folded-of c.self.invariant c.self.view_is;
      none = begun.none;
      words = begun.words;
      course = subst (λ (l : PlainBook g.row.D.Denot). IsCourseOf l.whole (length (flat c.args.self.now.acked)) c.args.commands.now c.in_ok-course.course.replies.items c.in_ok-course.course.changes.items c.in_ok-course.course.next) c.self.view_is
          (subst (λ n. IsCourseOf c.self.inside.core n c.args.commands.now c.in_ok-course.course.replies.items c.in_ok-course.course.changes.items c.in_ok-course.course.next) (acked-of c.self.invariant c.self.view_is) course);
    }

pub returns-clause-each : goal.returns-clause-each
returns-clause-each g c =
    subst (λ (l : PlainBook g.row.D.Denot). IsTrue c.in_ok-course.course.each_has_room ↔ FindRoomEach l.size l.whole.durable c.in_ok-course.course.changes.items) c.self.view_is c.in_ok-course.ensures.each

pub returns-clause-same : goal.returns-clause-same
returns-clause-same g c = core-of c.self.invariant c.self.view_is c.course_of.new.core c.course_of.ensures.same

pub returns-in_err-course-clause-planned : goal.returns-in_err-course-clause-planned
returns-in_err-course-clause-planned g c = let p = err_from_is_err_and c.from_residual-in_err-course.result c.from_residual-in_err-course.ensures.1 in rw (p.1) tt

pub returns-in_err-course-clause-each : goal.returns-in_err-course-clause-each
returns-in_err-course-clause-each g c = let p = err_from_is_err_and c.from_residual-in_err-course.result c.from_residual-in_err-course.ensures.1 in rw (p.1) tt

pub returns-in_err-course-clause-refused : goal.returns-in_err-course-clause-refused
returns-in_err-course-clause-refused g c =
    let begun = begun-by (world_book c.args.self.now) c.args.commands.now c.in_ok-check_all.ensures in
    let p = err_from_is_err_and c.from_residual-in_err-course.result c.from_residual-in_err-course.ensures.1 in
    let now = c.args.self.now in
    let commands = c.args.commands.now in
    rw (p.1, p.2) (refused-whole g.D.Disk now _ commands Memory (core-of c.self.invariant c.self.view_is c.course_of.new.core c.course_of.ensures.same) refl (λ h at. memory-refuses h (world_book now) commands at begun.none begun.words)
    (rests-of g.D.Disk c.self.invariant c.self.view_is (g.met.D.Disk.only_now c.self.inside.store.disk) (left-in c.self.invariant c.self.view_is (grouping commands))))

pub returns-in_err-course-clause-same : goal.returns-in_err-course-clause-same
returns-in_err-course-clause-same g c = core-of c.self.invariant c.self.view_is c.course_of.new.core c.course_of.ensures.same
