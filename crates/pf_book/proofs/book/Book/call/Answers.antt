use Rattle.std.proofs.{Common.{◌≡◌, ◌+◌, ℕ, Bool, [], ◌∷◌, length, map, None, Some, Result, Ok, Err, refl, sym, ap, ◌∙◌, subst, true, false, arith}, lemmas.Grind.common_steps}
use Rattle.std.specs.{Arc.arc_value, Prelude.nat_lt}
use Rattle.pf_core.specs.declared.reply.{Outcome.Outcome, Reply.Reply, Reply.TheVariants.{Answer, Applied, Stored, Refused}, Refusal.Refusal, Refusal.TheVariants.Halted}
use Rattle.pf_core.specs.declared.{command.Command.{Command, TheVariants.History}, reply.Answer.TheVariants.Judged, step.Step.TheVariants.{Wants}}
use Rattle.pf_core.specs.{Calls.call, Commands.{may_change, step_by, takes_memory}, Durable.Changes.{PlainChange, verdict}, Laws.Wanted.left_is, WorldBooks.WorldBook, Cores.{IsMade, PlainCore, plain}, Worlds.{calling, flat, grouping}}
use Rattle.pf_core.specs.declared.step.ReadyStep.TheVariants as made
use Rattle.pf_book.specs.{Books.{PlainBook, book_of, world_book, world_book_of, IsBook, AnswersHistory}, Courses.{IsPlanned, KeepsTogether}, Receipts.IsCall}
use Rattle.pf_book.proofs.Calling.{with_core, IsFree, Steps, unchanging, none-pending, no-fault, not-more, answer-leads, halted-leads, refusal-leads, judged-by, refused-call, reported-call, err-not-fault, wants-free}
use Rattle.pf_book.proofs.BookInvariant.{stepped-book}
use Rattle.pf_book.proofs.{Grouping.{made-call, ready}, OpenedBooks.{parts, acked-of, disk-of, core-of, left-in, quiet-of, rests-of, all-of}, Single.{change_after, one-call, planned-one, reply_after}}
use Rattle.pf_book.proofs.book.Book.call.Given.{Over}
use Rattle.pf_book.proofs.book.Book.call.Goals.{else-self-len-via-then-self-len+else-may_change, else-self-len-via-else-self-len, After-step_ready, After-make, In-Ok-Wants}
use Rattle.pf_book.proofs.book.Book.call.Goals as goal

pub returns-then-may_change : goal.returns-then-may_change
returns-then-may_change g c =
    let b : WorldBook = world_book c.args.self.now in
    let k : Command = c.args.command.now in
    let counted : c.len.result ≡ length (map arc_value c.self.inside.log.items) = grind (arith, common_steps, c.len.ensures) in
    let some : b.pending ≡ [] → ⊥ = λ none.
    let all : c.self.inside.acked ≡ length (map arc_value c.self.inside.log.items) = all-of c.self.invariant c.self.view_is none in
    absurd (omega (arith, all, counted, c.if-self-len.true)) in
    refused-call c.args.self.now c.args.self.now k Halted refl refl (λ h at. halted-leads h b k (sym c.may_change.ensures ∙ c.if-may_change.true) some at)
    (judged-by c.args.self.now.whole.durable k (Refused Halted) (λ packet is. absurd (cc (ap may_change is, c.may_change.ensures, c.if-may_change.true))))
    (rests-of g.D.Disk c.self.invariant c.self.view_is (g.met.D.Disk.only_now c.self.inside.store.disk) (left-in c.self.invariant c.self.view_is (calling k)))

module _ (g : Over) (c : After-step_ready g) where
  -- the step's result leaves the transactions within their limits
  stepped : IsBook g.D.Disk.seen g.D.Disk.unsynced (record (parts c.self.invariant) { whole = c.step_ready.new.self })
  stepped =
      let core = c.self.inside.core in
      let k = c.args.command.now in
      stepped-book c.self.invariant c.step_ready.new.self k (takes_memory core.durable k) (plain c.step_ready.result) c.step_ready.ensures.reply c.step_ready.ensures.left

  -- nothing is pending, or the command changes nothing
  free : IsFree (world_book_of (parts c.self.invariant)) c.args.command.now
  free =
      let counted : c.len.result ≡ length (map arc_value c.self.inside.log.items) = grind (arith, common_steps, c.len.ensures) in
      elim c.else-self-len.branch [
        | else-self-len-via-then-self-len+else-may_change w ↦ unchanging (world_book_of (parts c.self.invariant)) c.args.command.now (sym w.may_change.ensures ∙ w.if-may_change.false)
        | else-self-len-via-else-self-len w ↦ none-pending (parts c.self.invariant) c.args.command.now c.self.invariant.low (omega (arith, counted, w.if-self-len.false))
      ]

pub invariant_of-self : goal.invariant_of-self
invariant_of-self g c = stepped g (goal.at.invariant_of-self g c).After-step_ready

pub invariant_of-self-in-Ok-Wants : goal.invariant_of-self-in-Ok-Wants
invariant_of-self-in-Ok-Wants g c = stepped g (goal.at.invariant_of-self-in-Ok-Wants g c).After-step_ready

pub invariant_of-self-in-Ok-OfHistory : goal.invariant_of-self-in-Ok-OfHistory
invariant_of-self-in-Ok-OfHistory g c = stepped g (goal.at.invariant_of-self-in-Ok-OfHistory g c).After-step_ready

pub invariant_of-self-in-Err : goal.invariant_of-self-in-Err
invariant_of-self-in-Err g c = stepped g (goal.at.invariant_of-self-in-Err g c).After-step_ready

pub returns-in-Ok-Done : goal.returns-in-Ok-Done
returns-in-Ok-Done g c =
    let s = c.self.inside in
    let i = c.self.invariant in
    let k : Command = c.args.command.now in
    let r : Reply = Answer c.in-Ok-Done.answer in
    let b : WorldBook = world_book_of (parts i) in
    let new : WorldBook = with_core b c.step_ready.new.self in
    let e = rw c.in-Ok-Done.field-0-is at c.in-Ok-Done.ensures in
    let shown : ℕ = length (g.S.Publisher.plain s.shower).shown in
    let f : ℕ = g.D.Disk.fault_count s.store.disk in
    subst (λ (l : PlainBook g.row.D.Denot). IsCall g.D.Disk l (book_of (record (parts i) { whole = c.step_ready.new.self })) k r None) c.self.view_is (record {
      leads = λ h at. no-fault h new (call k r) shown (nat_lt f f) (not-more f f (omega arith))
          (answer-leads h b c.step_ready.new.self k c.in-Ok-Done.answer at i.folded (free g (goal.at.returns-in-Ok-Done g c).After-step_ready) e.reply (ap (λ (w : PlainCore). w.tickets) e.left));
      uses = quiet-of g.D.Disk i refl (g.met.D.Disk.only_now s.store.disk) (left-in i refl (calling k)) _ refl refl refl;
      given = refl;
      numbered = tt;
      judged = judged-by s.core.durable k r (λ packet is. let same : c.in-Ok-Done.answer ≡ Judged (verdict s.core.durable packet) = cc (e.judged packet is) in ap Answer same);
      stays = refl;
      opening = record { base = refl; setting = refl };
    })

-- a change is wanted
module _ (g : Over) (c : In-Ok-Wants g) (all : IsBook g.D.Disk.seen g.D.Disk.unsynced (record (parts c.self.invariant) { whole = c.step_ready.new.self })) (free : IsFree (world_book_of (parts c.self.invariant)) c.args.command.now) where
  abbrev found : PlainBook g.row.D.Denot
  found = book_of (record (parts c.self.invariant) { whole = c.step_ready.new.self })

  abbrev number : ℕ
  number = c.self.inside.acked + 1

  abbrev k : Command
  k = c.args.command.now

  abbrev e : PlainChange
  e = c.in-Ok-Wants.change

  abbrev o : Outcome
  o = c.in-Ok-Wants.outcome

  left : c.step_ready.new.self ≡ c.self.inside.core
  left = (rw c.in-Ok-Wants.field-0-is at c.in-Ok-Wants.ensures).left

  steps : Steps (world_book_of (parts c.self.invariant)) k (Ok (Wants e o))
  steps = (rw c.in-Ok-Wants.field-0-is at c.in-Ok-Wants.ensures).reply

  number-is : number ≡ length (flat found.acked) + 1
  number-is = ap (λ (n : ℕ). n + 1) (acked-of all refl)

  wanted : Ok (Wants e o) ≡ step_by found.whole.tickets found.whole.durable k
  wanted = subst (λ (w : PlainCore). Ok (Wants e o) ≡ step_by w.tickets w.durable k) (sym left) (steps.0 (λ m. cc (m)))

  planned : IsPlanned (world_book found) (k ∷ []) (Applied number o ∷ []) (e ∷ []) (Some c.in-Ok-Wants.next)
  planned = planned-one (world_book found) k e c.in-Ok-Wants.next o number all.folded all.tickets (wants-free (world_book_of (parts c.self.invariant)) k e o free steps)
      (subst (λ (w : PlainCore). IsMade w.durable (Ok (made.Wants e c.in-Ok-Wants.next o))) (sym left) (rw c.in-Ok-Wants.field-0-is at c.in-Ok-Wants.ensures).made) wanted number-is

  came : (new : PlainBook g.row.D.Denot) (shown : Result Bool Refusal) → KeepsTogether g.D.Disk found new (e ∷ []) shown → IsCall g.D.Disk c.args.self.now new k (reply_after shown (Applied number o)) (change_after shown e)
  came new shown kept =
      subst (λ (l : PlainBook g.row.D.Denot). IsCall g.D.Disk l new k (reply_after shown (Applied number o)) (change_after shown e)) (core-of c.self.invariant c.self.view_is c.step_ready.new.self left)
      (one-call found new k e c.in-Ok-Wants.next o number planned wanted number-is shown kept.kept
      (made-call found new (k ∷ []) (Applied number o ∷ []) (e ∷ []) planned (rests-of g.D.Disk all refl (g.met.D.Disk.only_now c.self.inside.store.disk) (left-in all refl (grouping (k ∷ [])))) shown kept))

pub make-requires : goal.make-requires
make-requires g c = let at = goal.at.make-requires g c in ready (planned g at.In-Ok-Wants (stepped g at.After-step_ready) (free g at.After-step_ready))

pub returns-then-shown : goal.returns-then-shown
returns-then-shown g c =
    let at = goal.at.returns-then-shown g c in
    let here = at.In-Ok-Wants in
    let all = stepped g at.After-step_ready in
    let before = free g at.After-step_ready in
    let same : arc_value c.in-Ok.given ≡ c.in-Ok-Wants.change = cc (c.in-Ok.ensures.given) in
    subst (λ (x : PlainChange). IsCall g.D.Disk c.args.self.now c.make.new.self c.args.command.now (Applied (c.self.inside.acked + 1) c.in-Ok-Wants.outcome) (Some x)) (sym same)
    (came g here all before c.make.new.self (Ok true) (subst (λ (x : Bool). KeepsTogether g.D.Disk (found g here all before) c.make.new.self (c.in-Ok-Wants.change ∷ []) (Ok x)) c.if-shown.true c.in-Ok.ensures.kept))

pub returns-else-shown : goal.returns-else-shown
returns-else-shown g c =
    let at = goal.at.returns-else-shown g c in
    let here = at.In-Ok-Wants in
    let all = stepped g at.After-step_ready in
    let before = free g at.After-step_ready in
    let same : arc_value c.in-Ok.given ≡ c.in-Ok-Wants.change = cc (c.in-Ok.ensures.given) in
    subst (λ (x : PlainChange). IsCall g.D.Disk c.args.self.now c.make.new.self c.args.command.now (Stored (c.self.inside.acked + 1) c.in-Ok-Wants.outcome) (Some x)) (sym same)
    (came g here all before c.make.new.self (Ok false) (subst (λ (x : Bool). KeepsTogether g.D.Disk (found g here all before) c.make.new.self (c.in-Ok-Wants.change ∷ []) (Ok x)) c.if-shown.false c.in-Ok.ensures.kept))

pub returns-in-Err-make : goal.returns-in-Err-make
returns-in-Err-make g c =
    let at = goal.at.returns-in-Err-make g c in
    came g at.In-Ok-Wants (stepped g at.After-step_ready) (free g at.After-step_ready) c.make.new.self (Err c.in-Err-make.refusal) c.in-Err-make.ensures.kept

pub returns-in-Ok-OfHistory : goal.returns-in-Ok-OfHistory
returns-in-Ok-OfHistory g c =
    let i = c.self.invariant in
    let k : Command = c.args.command.now in
    let now = c.args.self.now in
    let new = c.answer_history.new.self in
    let f = c.answer_history.ensures in
    let e = rw c.in-Ok-OfHistory.field-0-is at c.in-Ok-OfHistory.ensures in
    let asked : k ≡ History c.in-Ok-OfHistory.command = left_is c.self.inside.core.tickets c.self.inside.core.durable k c.in-Ok-OfHistory.command (sym (e.reply.0 (λ m. cc (m)))) in
    let reported : AnswersHistory c.in-Ok-OfHistory.command c.answer_history.result (world_book now) (world_book new) =
    subst (λ (l : PlainBook g.row.D.Denot). AnswersHistory c.in-Ok-OfHistory.command c.answer_history.result (world_book l) (world_book new)) (core-of i c.self.view_is c.step_ready.new.self e.left) f.reported in
    subst (λ (x : Command). IsCall g.D.Disk now new x c.answer_history.result None) (sym asked)
    (reported-call now new c.in-Ok-OfHistory.command c.answer_history.result reported (f.device ∙ sym (disk-of i c.self.view_is))
    (quiet-of g.D.Disk i c.self.view_is (g.met.D.Disk.only_now c.self.inside.store.disk) (left-in i c.self.view_is (calling (History c.in-Ok-OfHistory.command))) new f.device f.generation f.size))

pub returns-in-Err : goal.returns-in-Err
returns-in-Err g c =
    let i = c.self.invariant in
    let k : Command = c.args.command.now in
    let why = c.in-Err.refusal in
    let b : WorldBook = world_book_of (parts i) in
    let before = free g (goal.at.returns-in-Err g c).After-step_ready in
    let e = c.in-Err.ensures in
    subst (λ (l : PlainBook g.row.D.Denot). IsCall g.D.Disk l (book_of (record (parts i) { whole = c.step_ready.new.self })) k (Refused why) None) c.self.view_is
    (refused-call (book_of (parts i)) _ k why (core-of i refl c.step_ready.new.self e.left) (err-not-fault b k why e.reply) (λ h at. refusal-leads h b b k why at i.folded before e.reply refl)
    (judged-by c.self.inside.core.durable k (Refused why) (λ packet is. absurd (cc (e.judged packet is)))) (rests-of g.D.Disk i refl (g.met.D.Disk.only_now c.self.inside.store.disk) (left-in i refl (calling k))))
