use Rattle.std.proofs.Common.{◌≡◌, ◌∙◌, Bool, true, false, Result, List, Ok, Err, length, map, take, drop, Some, ℕ, ◌++◌, sym, ap, subst, append-nil, arith}
use Rattle.std.proofs.lemmas.List.{length-map, drop_all, take_all}
use Rattle.std.specs.{Arc.arc_value}
use Rattle.pf_core.specs.{declared.reply.{Refusal.Refusal, Reply.Reply}, Worlds.{as_stored, grouping}}
use Rattle.pf_book.specs.{Books.{reported_after, UsesDevice, IsLeft, world_book}, Courses.{IsPlanned, KeepsTogether}, Groups.IsGroupCall}
use Rattle.pf_book.proofs.{Grouping.{changes-are, made-call, nothing-due, ready, unchanged-call}, OpenedBooks.{rests-of, left-in}}
use Rattle.pf_book.proofs.book.Book.finish.Given.{Over}
use Rattle.pf_book.proofs.book.Book.finish.Goals.{After-make, After-self}
use Rattle.pf_book.proofs.book.Book.finish.Goals as goal

-- no call of the device was made before
quiet : (g : Over) (c : After-self g) → UsesDevice g.D.Disk false c.args.self.now c.args.self.now (IsLeft (world_book c.args.self.now) (grouping c.args.commands.now))
quiet g c = rests-of g.D.Disk c.self.invariant c.self.view_is (g.met.D.Disk.only_now c.self.inside.store.disk) (left-in c.self.invariant c.self.view_is (grouping c.args.commands.now))

-- nothing is to be kept
pub returns-in_default-clause-call : goal.returns-in_default-clause-call
returns-in_default-clause-call g c =
    let plan = subst (λ next. IsPlanned (world_book c.args.self.now) c.args.commands.now c.args.course.replies.items c.args.course.changes.items next) c.in_default.is c.requires in
    unchanged-call c.args.self.now c.args.commands.now _ _ plan (quiet g (goal.at.returns-in_default-clause-call g c).After-self)

pub returns-in_default-clause-given : goal.returns-in_default-clause-given
returns-in_default-clause-given g c h at =
    let plan = subst (λ next. IsPlanned (world_book c.args.self.now) c.args.commands.now c.args.course.replies.items c.args.course.changes.items next) c.in_default.is c.requires in
    ap (λ xs. map arc_value xs) c.new.ensures.items ∙ sym (nothing-due c.args.self.now c.args.commands.now _ _ plan (quiet g (goal.at.returns-in_default-clause-given g c).After-self)) ∙ changes-are plan h at

module _ (g : Over) (c : After-make g) where
  plan : IsPlanned (world_book c.args.self.now) c.args.commands.now c.args.course.replies.items c.args.course.changes.items (Some c.in-Some.next)
  plan = subst (λ next. IsPlanned (world_book c.args.self.now) c.args.commands.now c.args.course.replies.items c.args.course.changes.items next) c.in-Some.is c.requires

  made : (shown : Result Bool Refusal) → KeepsTogether g.D.Disk c.args.self.now c.make.new.self c.args.course.changes.items shown → IsGroupCall g.D.Disk c.args.self.now c.make.new.self c.args.commands.now (reported_after shown c.args.course.replies.items)
  made = made-call c.args.self.now c.make.new.self c.args.commands.now c.args.course.replies.items c.args.course.changes.items plan
      (rests-of g.D.Disk c.self.invariant c.self.view_is (g.met.D.Disk.only_now c.self.inside.store.disk) (left-in c.self.invariant c.self.view_is (grouping c.args.commands.now)))

pub make-requires : goal.make-requires
make-requires g c = ready (subst (λ next. IsPlanned (world_book c.args.self.now) c.args.commands.now c.args.course.replies.items c.args.course.changes.items next) c.in-Some.is c.requires)

pub returns-then-shown-clause-call : goal.returns-then-shown-clause-call
returns-then-shown-clause-call g c =
    made g (goal.at.returns-then-shown-clause-call g c).After-make (Ok true) (subst (λ (x : Bool). KeepsTogether g.D.Disk c.args.self.now c.make.new.self c.args.course.changes.items (Ok x)) c.if-shown.true c.in-Ok.ensures.kept)

pub returns-then-shown-clause-given : goal.returns-then-shown-clause-given
returns-then-shown-clause-given g c h at = c.in-Ok.ensures.given ∙ changes-are (plan g (goal.at.returns-then-shown-clause-given g c).After-make) h at

pub returns-else-shown-clause-call : goal.returns-else-shown-clause-call
returns-else-shown-clause-call g c =
    let items : List Reply = c.args.course.replies.items in
    let reported : List Reply = c.all_stored.new.replies in
    let len : ℕ = c.args.course.replies.len in
    let stored : reported ≡ map as_stored items = c.all_stored.ensures ∙ ap (map as_stored) c.deref_mut.ensures.value in
    let long : length reported ≡ length items = ap length stored ∙ length-map items as_stored in
    let whole : length items ≡ len = ap length (sym c.deref_mut.ensures.value) ∙ c.deref_mut.ensures.len in
    let all : take len (reported ++ drop (length reported) items) ≡ map as_stored items =
    ap (λ (l : List Reply). take len (reported ++ l)) (drop_all (length reported) items (omega (arith, long))) ∙ ap (take len) (append-nil reported) ∙ take_all len reported (omega (arith, long, whole)) ∙ stored in
    subst (λ (rs : List Reply). IsGroupCall g.D.Disk c.args.self.now c.make.new.self c.args.commands.now (Ok rs)) (sym all)
    (made g (goal.at.returns-else-shown-clause-call g c).After-make (Ok false) (subst (λ (x : Bool). KeepsTogether g.D.Disk c.args.self.now c.make.new.self c.args.course.changes.items (Ok x)) c.if-shown.false c.in-Ok.ensures.kept))

pub returns-else-shown-clause-given : goal.returns-else-shown-clause-given
returns-else-shown-clause-given g c h at = c.in-Ok.ensures.given ∙ changes-are (plan g (goal.at.returns-else-shown-clause-given g c).After-make) h at

pub returns-in-Err-clause-call : goal.returns-in-Err-clause-call
returns-in-Err-clause-call g c = made g (goal.at.returns-in-Err-clause-call g c).After-make (Err c.in-Err.refusal) c.in-Err.ensures.kept
