use Rattle.std.proofs.{Common.{append-nil, ◌≤◌, ◌≡◌, ◌+◌, ◌<◌, ℕ, [], List, ◌∷◌, ◌++◌, drop, length, Option, Result, refl, sym, ap, ◌∙◌, subst, arith}, lemmas.{List.{at_drop_all, drop_more}, Result.err_from_is_err_and}}
use Rattle.std.specs.Prelude.{flat_map, ◌↔◌, IsTrue}
use Rattle.pf_ticket.proofs.TicketLimits.{keeps_the_limits}
use Rattle.pf_core.specs.declared.{command.Command.Command, reply.Refusal.Refusal, step.Step.Step}
use Rattle.pf_core.specs.{Commands.{step_by}, Durable.Changes.{PlainChange, after, voided_by}, Nexts.PlainNext, Cores.{PlainCore, plain, IsMadeFrom}, Worlds.{amid, changes_of, changes_due, replies_due}}
use Rattle.pf_book.specs.Courses.{ready_of, found_by, StepFindsRoom}
use Rattle.pf_book.proofs.Coursing.{Steps, tickets_there, step-after, step-amidst, number-amidst, replies-on, changes-on, each-on, fit-on, wanted-on, few-on, left-on}
use Rattle.pf_book.proofs.course.course_of.Goals as goal

pub loop-command-preserved : goal.loop-command-preserved
loop-command-preserved g c =
    let at = c.loop-command in
    let inv = at.invariant in
    let w : PlainCore = c.args.core.now in
    let i : ℕ = at.command-index in
    let commands : List Command = c.args.commands.now in
    let k : Command = c.command-item.result in
    let s : Result Step Refusal = plain c.step-step.result in
    let before : Option PlainNext = at.course.next in
    let changes : List PlainChange = at.course.changes.items in
    let new = c.take.new.self in
    let low : i < length commands = c.loop-command-test.true in
    let steps : Steps w before k s = subst (λ (x : PlainCore). Steps x before k s) inv.core c.step-step.ensures.reply in
    let is : s ≡ step_by (tickets_there w changes) (after w.durable changes) k = step-after w changes k before s inv.next steps c.in_ok-take.ensures.taken.known in
    let from : IsMadeFrom (found_by w.durable before) c.step-step.result = subst (λ (x : PlainCore). IsMadeFrom (found_by x.durable before) c.step-step.result) inv.core c.step-step.ensures.made in
    let wants : new.changes.items ≡ changes ++ changes_of s = c.in_ok-take.ensures.taken.changes in
    let left : drop i commands ≡ k ∷ drop (i + 1) commands = drop_more commands i k low ∙ ap (λ (x : Command). x ∷ drop (i + 1) commands) (sym c.command-item.is) in
    record {
      core = c.step-step.ensures.same ∙ inv.core;
      next = c.in_ok-take.ensures.taken.next ∙ left-on w.durable changes before c.step-step.result inv.next from ∙ ap (ready_of w.durable) (sym wants);
      replies = λ h calm. replies-on h at.course.replies.items new.replies.items (replies_due h [] commands) changes new.changes.items k (drop i commands) (drop (i + 1) commands) s
          (step-amidst h w c.args.acked changes k s calm is) left (c.in_ok-take.ensures.taken.replies (amid h changes) (number-amidst h w c.args.acked changes calm)) wants (inv.replies h calm);
      changes = λ h calm. changes-on h (changes_due h [] commands) changes new.changes.items k (drop i commands) (drop (i + 1) commands) s
          (step-amidst h w c.args.acked changes k s calm is) left wants (inv.changes h calm);
      fit = fit-on w.durable (tickets_there w changes) changes new.changes.items k s is wants inv.fit;
      wanted = wanted-on (tickets_there w changes) (after w.durable changes) changes new.changes.items k s (keeps_the_limits.commit w.tickets (flat_map voided_by changes) c.requires.tickets) is wants inv.wanted;
      few = omega (arith, few-on changes new.changes.items s wants, inv.few);
      each = each-on c.args.store.now.size w.durable changes new.changes.items before c.step-step.result at.course.each_has_room c.finds_room-has_room.result new.each_has_room inv.next from wants c.take.ensures.room inv.each
          (subst (λ (x : PlainCore). IsTrue c.finds_room-has_room.result ↔ StepFindsRoom c.args.store.now.size (found_by x.durable before).durable c.step-step.result) (c.step-step.ensures.same ∙ inv.core) c.finds_room-has_room.ensures);
    }

pub loop-command-init : goal.loop-command-init
loop-command-init g c =
    let none : c.in_ok-with_capacity.field-0.items ≡ [] = c.in_ok-with_capacity.ensures.items in
    let empty : c.new.result.items ≡ [] = c.new.ensures.items in
    rw (none, empty) (record { core = refl; next = refl; replies = λ h calm. refl; changes = λ h calm. refl; fit = tt; wanted = refl; few = omega arith; each = (λ p. tt, λ p. refl) })

pub returns-in_err-with_capacity-clause-course : goal.returns-in_err-with_capacity-clause-course
returns-in_err-with_capacity-clause-course g c = let p = err_from_is_err_and c.from_residual.result c.from_residual.ensures.1 in rw (p.1) tt

pub returns-in_err-with_capacity-clause-each : goal.returns-in_err-with_capacity-clause-each
returns-in_err-with_capacity-clause-each g c = let p = err_from_is_err_and c.from_residual.result c.from_residual.ensures.1 in rw (p.1) tt

pub returns-in_err-take-clause-each : goal.returns-in_err-take-clause-each
returns-in_err-take-clause-each g c = let p = err_from_is_err_and c.from_residual-in_err-take.result c.from_residual-in_err-take.ensures.1 in rw (p.1) tt

pub returns-clause-each : goal.returns-clause-each
returns-clause-each g c = c.loop-command.invariant.each

pub returns-in_err-with_capacity-clause-same : goal.returns-in_err-with_capacity-clause-same
returns-in_err-with_capacity-clause-same g c = refl

pub returns-in_err-take-clause-course : goal.returns-in_err-take-clause-course
returns-in_err-take-clause-course g c = let p = err_from_is_err_and c.from_residual-in_err-take.result c.from_residual-in_err-take.ensures.1 in rw (p.1) tt

pub returns-in_err-take-clause-same : goal.returns-in_err-take-clause-same
returns-in_err-take-clause-same g c = c.step-step.ensures.same ∙ c.loop-command.invariant.core

pub returns-clause-course : goal.returns-clause-course
returns-clause-course g c =
    let at = c.loop-command in
    let inv = at.invariant in
    let commands : List Command = c.args.commands.now in
    let all : length commands ≤ at.command-index = c.loop-command-test.false in
    let es : List PlainChange = at.course.changes.items in
    record {
      replies = λ h calm. sym (append-nil at.course.replies.items) ∙ sym (at_drop_all (λ ks. at.course.replies.items ++ replies_due h es ks) commands at.command-index all) ∙ inv.replies h calm;
      changes = λ h calm. sym (at_drop_all (λ ks. changes_due h es ks) commands at.command-index all) ∙ inv.changes h calm;
      next = inv.next;
      fit = inv.fit;
      wanted = inv.wanted;
      few = omega arith;
    }

pub returns-clause-same : goal.returns-clause-same
returns-clause-same g c = c.loop-command.invariant.core
