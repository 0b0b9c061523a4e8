-- A call that wants a change is a group of one.
use Rattle.std.proofs.Common.{◌≡◌, ◌⊎◌, inl, inr, ℕ, ◌+◌, Bool, true, false, List, [], ◌∷◌, ◌++◌, length, take, Option, None, Some, Result, Ok, Err, refl, sym, ap, ◌∙◌, subst, append-nil, arith}
use Rattle.std.specs.Prelude.{fold}
use Rattle.pf_core.specs.Refusing.{and_then}
use Rattle.pf_ticket.specs.{Laws.Tickets.IsWithin as AreTicketsWithin, Mentions.after as moved_by, Names.{filter_at, table_ruleset_at}, Replies.{begin_reply, add_reply, define_reply, extend_reply, list_check}, Tickets.PlainTickets}
use Rattle.pf_rule.specs.Packets.{PlainPacket}
use Rattle.pf_core.specs.declared.{command.Command.Command, command.Command.TheVariants.{Transact, Edit, States as OfStates, Ask, History}, command.Question.TheVariants.Judge, command.Transaction.TheVariants.{Begin, Add, Define, Extend, Commit, Rollback}, reply.Outcome.Outcome, reply.Refusal.Refusal, reply.Refusal.TheVariants.{Fault, Memory}, reply.Reply.Reply, reply.Reply.TheVariants.{Applied, Refused}, step.Step.Step, step.Step.TheVariants.Wants}
use Rattle.pf_core.specs.declared.reply.Answer.TheVariants as answer
use Rattle.pf_core.specs.declared.step.ReadyStep.TheVariants as made
use Rattle.pf_core.specs.{Calls.{call, mentions_of, replies_in}, Commands.{group_words, may_be_grouped, step_by, takes_memory}, Durable.Changes.{PlainDurable, PlainChange, after}, Laws.Wanted.{none-wanted, wants_memory}, Nexts.PlainNext, Cores.{IsMade}, WorldBooks.{WorldBook, IsAt, IsFolded, Leads, LeadsGroup}, Worlds.{CurrentOpening, Upshot, calling, grouping, flat, log_of, durable_of, step_in, reply_to, changes_of, room_for, or_refused, if_ok, due_at, due, grouped, group_at, group_in, amid, changes_due, replies_due, group_start, group_check, replies_unless, due_group, group_all, pending_by_group, shown_by, heard, heard_group, down, as_stored, GroupStandsIn, LegalReplies, LegalReply, StandsIn}}
use Rattle.pf_core.proofs.Courses.{length-with, unhalted-in}
use Rattle.pf_disk.specs.declared.disk.Disk.{Ghosts}
use Rattle.pf_book.specs.{Books.{PlainBook, world_book, HoldsLeft, IsLeft, IsMore, IsNumbered, AreKept, StaysUnlessAnyKept, StaysUnlessKept, is_fault_reply, is_fault_result, reported_after}, Courses.{IsPlanned}, Groups.IsGroupCall, Receipts.{IsCall, IsGiven}}
use Rattle.pf_book.proofs.{Calling.{durable-is, judged-by, log-acked}, Coursing.{fit-on, left-on, number-amidst, step-amidst, wanted-on}, Grouping.{changes-are, due-is, start-is}, LockedCalls.added-by, Openable.{uses-as, uses-reported}}

-- ---- what a group may have

-- a command that wants a change
wants-grouped : (t : PlainTickets) (d : PlainDurable) (c : Command) (e : PlainChange) (o : Outcome) → step_by t d c ≡ Ok (Wants e o) → may_be_grouped c ≡ true
wants-grouped t d (Transact (Begin names)) e o is = absurd (none-wanted (begin_reply t names) (λ range. answer.Given range) e o is)
wants-grouped t d (Transact (Add p u r)) e o is = absurd (none-wanted (add_reply t (filter_at p) u) (λ _. answer.Done) e o is)
wants-grouped t d (Transact (Define p u name xs)) e o is = absurd (none-wanted (define_reply t (table_ruleset_at p) u name xs) (λ _. answer.Done) e o is)
wants-grouped t d (Transact (Extend p u name xs)) e o is = absurd (none-wanted (extend_reply t (table_ruleset_at p) u name xs) (λ _. answer.Done) e o is)
wants-grouped t d (Transact (Commit entries)) e o is = refl
wants-grouped t d (Transact (Rollback entries)) e o is = absurd (none-wanted (list_check entries) (λ _. answer.Done) e o is)
wants-grouped t d (Edit edit) e o is = refl
wants-grouped t d (OfStates x) e o is = refl
wants-grouped t d (Ask q) e o is = absurd (cc (is))
wants-grouped t d (History x) e o is = absurd (cc (is))

words-one : (c : Command) → may_be_grouped c ≡ true → group_words (c ∷ []) ≡ Ok tt
words-one c may = rw may refl

-- what it comes to alone
pub planned-one : (b : WorldBook) (c : Command) (e : PlainChange) (left : PlainNext) (o : Outcome) (n : ℕ) → IsFolded b → AreTicketsWithin b.whole.tickets → b.pending ≡ [] → IsMade b.whole.durable (Ok (made.Wants e left o))
    → Ok (Wants e o) ≡ step_by b.whole.tickets b.whole.durable c → n ≡ length (flat b.acked) + 1 → IsPlanned b (c ∷ []) (Applied n o ∷ []) (e ∷ []) (Some left)
planned-one b c e left o n folded within none from is number = record {
  folded = folded;
  none = none;
  words = words-one c (wants-grouped b.whole.tickets b.whole.durable c e o (sym is));
  course = record {
    replies = λ h calm.
        let here : length (log_of (amid h [])) ≡ length (flat b.acked) + 0 = number-amidst h b.whole (length (flat b.acked)) [] calm in
        let same : n ≡ length (log_of (amid h [])) + 1 = omega (arith, number, here) in
        ap (λ (m : ℕ). Applied m o ∷ []) same ∙ ap (λ (s : Result Step Refusal). reply_to (amid h []) s ∷ []) (sym (step-amidst h b.whole (length (flat b.acked)) [] c (Ok (Wants e o)) calm is));
    changes = λ h calm. ap changes_of (sym (step-amidst h b.whole (length (flat b.acked)) [] c (Ok (Wants e o)) calm is));
    next = left-on b.whole.durable [] None (Ok (made.Wants e left o)) refl from;
    fit = fit-on b.whole.durable b.whole.tickets [] (e ∷ []) c (Ok (Wants e o)) is refl tt;
    wanted = wanted-on b.whole.tickets b.whole.durable [] (e ∷ []) c (Ok (Wants e o)) within is refl refl;
    few = omega arith;
  };
}

-- ---- what is told of it

-- the reply to a change to which this one is due
abbrev pub reply_after : Result Bool Refusal → Reply → Reply
reply_after (Ok true) r = r
reply_after (Ok false) r = as_stored r
reply_after (Err e) r = Refused e

abbrev pub change_after : Result Bool Refusal → PlainChange → Option PlainChange
change_after (Ok shown) e = Some e
change_after (Err why) e = None

module _ (h : CurrentOpening) (c : Command) (e : PlainChange) (o : Outcome) (n : ℕ) (step : step_in h c ≡ Ok (Wants e o)) (takes : takes_memory (durable_of h) c ≡ true) (number : n ≡ length (log_of h) + 1)
    (start : group_start h (c ∷ []) ≡ Ok tt) (changes : e ∷ [] ≡ changes_due h [] (c ∷ [])) (replies : Applied n o ∷ [] ≡ replies_due h [] (c ∷ [])) where
  abbrev r : Reply
  r = Applied n o

  abbrev room : Result (Unit {0}) Refusal
  room = room_for h (e ∷ [])

  check : group_check h (c ∷ []) ≡ room
  check = ap (λ (u : Result (Unit {0}) Refusal). and_then u (room_for h (changes_due h [] (c ∷ [])))) start ∙ ap (room_for h) (sym changes)

  -- the group is due what its command is due, and keeps the same
  same-due : due h c ≡ or_refused room r
  same-due = ap (due_at h) step ∙ ap (λ (m : ℕ). or_refused room (Applied m o)) (sym number)

  group-due : due_group h (c ∷ []) ≡ replies_unless room (r ∷ [])
  group-due = ap (λ (u : Result (Unit {0}) Refusal). replies_unless u (replies_due h [] (c ∷ []))) check ∙ ap (replies_unless room) (sym replies)

  same-group : group_all h (c ∷ []) ≡ group_in h c
  same-group = ap (λ (u : Result (Unit {0}) Refusal). if_ok u (grouped (changes_due h [] (c ∷ []))) []) check ∙ ap (λ (es : List PlainChange). if_ok room (grouped es) []) (sym changes) ∙ sym (ap (group_at h) step)

  abbrev GroupMay : Result (Unit {0}) Refusal → Bool → Result Bool Refusal → Type 0
  GroupMay u failed shown = (reported_after shown (r ∷ []) ≡ replies_unless u (r ∷ [])) ⊎ GroupStandsIn h (c ∷ []) failed (replies_unless u (r ∷ [])) (reported_after shown (r ∷ []))

  abbrev CallMay : Result (Unit {0}) Refusal → Bool → Result Bool Refusal → Type 0
  CallMay u failed shown = (reply_after shown r ≡ or_refused u r) ⊎ StandsIn h c failed (or_refused u r) (reply_after shown r)

  may-too : (u : Result (Unit {0}) Refusal) (failed : Bool) (shown : Result Bool Refusal) → GroupMay u failed shown → CallMay u failed shown
  may-too u failed (Err Memory) may = inr takes
  may-too (Ok u) failed (Ok true) may = inl refl
  may-too (Ok u) failed (Ok false) may = inr (refl, refl)
  may-too (Ok u) failed (Err why) (inl is) = absurd (cc (is))
  may-too (Ok u) failed (Err Fault) (inr stands) = inr stands.0
  may-too (Ok u) failed (Err why) (inr never) = absurd never
  may-too (Err x) failed (Ok true) (inl is) = absurd (cc (is))
  may-too (Err x) failed (Ok true) (inr never) = absurd never
  may-too (Err x) failed (Ok false) (inl is) = absurd (cc (is))
  may-too (Err x) failed (Ok false) (inr never) = absurd never
  may-too (Err x) failed (Err why) (inl is) = let same : why ≡ x = cc (is) in inl (ap Refused same)
  may-too (Err x) failed (Err why) (inr never) = absurd never

  legal-too : (shown : Result Bool Refusal) (failed : Bool) → LegalReplies h (c ∷ []) (reported_after shown (r ∷ [])) failed → LegalReply h c (reply_after shown r) failed
  legal-too shown failed legal =
      subst (λ (x : Reply). (reply_after shown r ≡ x) ⊎ StandsIn h c failed x (reply_after shown r)) (sym same-due) (may-too room failed shown
      (subst (λ (x : Result (List Reply) Refusal). (reported_after shown (r ∷ []) ≡ x) ⊎ GroupStandsIn h (c ∷ []) failed x (reported_after shown (r ∷ []))) group-due legal))

  at-too : (shown : Result Bool Refusal) (t : Upshot) (new : WorldBook) → IsAt (heard_group h (c ∷ []) (reported_after shown (r ∷ [])) t) new → IsAt (heard h (call c (reply_after shown r)) t) new
  at-too (Ok true) t new at = record { base = at.base; tickets = at.tickets ∙ ap (moved_by h.tickets) (append-nil (mentions_of (call c r))); acked = at.acked ∙ ap (λ (gs : List (List PlainChange)). h.acked ++ gs) same-group; pending = at.pending; shown = at.shown; setting = at.setting }
  at-too (Ok false) t new at = record { base = at.base; tickets = at.tickets ∙ ap (moved_by h.tickets) (append-nil (mentions_of (call c (as_stored r)))); acked = at.acked ∙ ap (λ (gs : List (List PlainChange)). h.acked ++ gs) same-group; pending = at.pending; shown = at.shown; setting = at.setting }
  at-too (Err why) t new at = record { base = at.base; tickets = at.tickets; acked = at.acked; pending = at.pending ∙ ap (λ (gs : List (List PlainChange)). h.pending ++ pending_by_group (Err why) gs) same-group; shown = at.shown; setting = at.setting }

  shown-too : (shown : Result Bool Refusal) → fold (λ (m : ℕ) (x : Reply). shown_by x m) h.shown (replies_in (reported_after shown (r ∷ []))) ≡ shown_by (reply_after shown r) h.shown
  shown-too (Ok true) = refl
  shown-too (Ok false) = refl
  shown-too (Err why) = refl

  leads-too : (shown : Result Bool Refusal) (t : Upshot) (new : WorldBook) → LeadsGroup h new (c ∷ []) (reported_after shown (r ∷ [])) t → Leads h new (call c (reply_after shown r)) t
  leads-too shown t new leads = record { legal = record { reply = legal-too shown t.failed leads.legal.reply; shown = leads.legal.shown ∙ shown-too shown }; at = at-too shown t new leads.at }

  left-too : (image : List ℕ) → HoldsLeft h (grouping (c ∷ [])) image → HoldsLeft h (calling c) image
  left-too image (d, holds, (m, is)) = (d, holds, (m, ap (λ (gs : List (List PlainChange)). down (after h.base (flat (h.acked ++ take m (h.pending ++ gs))))) (sym same-group) ∙ is))

-- ---- what a call comes to that wants a change

module _ {D : Type 0} (now new : PlainBook D) (c : Command) (e : PlainChange) (left : PlainNext) (o : Outcome) (n : ℕ) (plan : IsPlanned (world_book now) (c ∷ []) (Applied n o ∷ []) (e ∷ []) (Some left))
    (is : Ok (Wants e o) ≡ step_by now.whole.tickets now.whole.durable c) (number : n ≡ length (flat now.acked) + 1) where
  abbrev b : WorldBook
  b = world_book now

  own-step : (h : CurrentOpening) → IsAt h b → step_by h.tickets (durable_of h) c ≡ Ok (Wants e o)
  own-step h at = ap (λ (t : PlainTickets). step_by t (durable_of h) c) (sym at.tickets) ∙ ap (λ (d : PlainDurable). step_by now.whole.tickets d c) (sym (durable-is h b at plan.folded)) ∙ sym is

  -- whatever holds of a group of it
  module _ (h : CurrentOpening) (at : IsAt h b) where
    step : step_in h c ≡ Ok (Wants e o)
    step = unhalted-in h c (sym at.pending ∙ plan.none) ∙ own-step h at

    takes : takes_memory (durable_of h) c ≡ true
    takes = wants_memory h.tickets (durable_of h) c e o (own-step h at)

    same-number : n ≡ length (log_of h) + 1
    same-number = omega (arith, number, log-acked h b at plan.none)

    start : group_start h (c ∷ []) ≡ Ok tt
    start = start-is h b (c ∷ []) at plan.none ∙ plan.words

  numbered : (kept : WorldBook) → IsMore b kept (e ∷ []) → n ≡ length (flat kept.acked)
  numbered kept more = number ∙ sym (ap (λ (gs : List (List PlainChange)). length (flat gs)) more.acked ∙ length-with now.acked (e ∷ []))

  numbered-one : (shown : Result Bool Refusal) → AreKept shown (e ∷ []) b (world_book new) → IsNumbered (reply_after shown (Applied n o)) (world_book new)
  numbered-one (Ok true) (kept, more, all) = numbered kept more ∙ ap (λ (p : WorldBook). length (flat p.acked)) (sym all)
  numbered-one (Ok false) more = numbered (world_book new) more
  numbered-one (Err why) made = tt

  given-one : (shown : Result Bool Refusal) → AreKept shown (e ∷ []) b (world_book new) → IsGiven (reply_after shown (Applied n o)) (change_after shown e) b (world_book new)
  given-one (Ok true) (kept, more, all) = added-by b kept (world_book new) e (Some e) more (ap (λ (p : WorldBook). p.acked) all) (ap (λ (p : WorldBook). p.pending) all) plan.none refl
  given-one (Ok false) more = added-by b (world_book new) (world_book new) e (Some e) more refl refl plan.none refl
  given-one (Err why) made = refl

  stays-one : (shown : Result Bool Refusal) → StaysUnlessAnyKept (reported_after shown (Applied n o ∷ [])) now new → StaysUnlessKept (reply_after shown (Applied n o)) now new
  stays-one (Ok true) stays = tt
  stays-one (Ok false) stays = tt
  stays-one (Err why) stays = stays

  fault-one : (shown : Result Bool Refusal) → is_fault_reply (reply_after shown (Applied n o)) ≡ is_fault_result (reported_after shown (Applied n o ∷ []))
  fault-one (Ok true) = refl
  fault-one (Ok false) = refl
  fault-one (Err why) = refl

  never-asked : (packet : PlainPacket) → c ≡ Ask (Judge packet) → ⊥
  never-asked packet asked = let may : may_be_grouped c ≡ true = wants-grouped now.whole.tickets now.whole.durable c e o (sym is) in let no : may_be_grouped c ≡ false = ap may_be_grouped asked in cc (may, no)

  pub one-call : {device : Ghosts D} (shown : Result Bool Refusal) → AreKept shown (e ∷ []) b (world_book new) → IsGroupCall device now new (c ∷ []) (reported_after shown (Applied n o ∷ [])) → IsCall device now new c (reply_after shown (Applied n o)) (change_after shown e)
  one-call shown kept group = record {
    leads = λ h at. leads-too h c e o n (step h at) (takes h at) (same-number h at) (start h at) (changes-are plan h at) (due-is plan h at) shown _ (world_book new) (group.leads h at);
    uses = uses-reported (fault-one shown) (uses-as {Q = IsLeft b (calling c)} group.uses (λ image it. record {
      left = λ h at. left-too h c e o n (step h at) (takes h at) (same-number h at) (start h at) (changes-are plan h at) (due-is plan h at) image (it.left h at);
    }));
    given = given-one shown kept;
    numbered = numbered-one shown kept;
    judged = judged-by now.whole.durable c (reply_after shown (Applied n o)) (λ packet asked. absurd (never-asked packet asked));
    stays = stays-one shown group.stays;
    opening = group.opening;
  }
