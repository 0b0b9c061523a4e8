-- In each opening that a world ends in, each ticket was given once, and all limits hold.
use Rattle.std.proofs.{Common.{T, ◌&&◌, ◌||◌, ◌⊎◌, ◌≡◌, ℕ, ◌+◌, ◌≤◌, Bool, true, false, cond, List, [], ◌∷◌, length, refl, sym, ap, ◌∙◌, subst, inl, inr, Option, None, Result, Ok, Err, arith, zero, suc, ◌++◌, take}, Math.Seq.{take-nil, take-length}, lemmas.List.{append-nil, length-append}, lemmas.List.Sums.fold_push}
use Rattle.std.specs.{Prelude.{map, flat_map, fold}, FinMap.is_sorted, List.list_all}
use Rattle.pf_addr.specs.Path.Names.{name_order}
use Rattle.pf_ticket.specs.{declared.{ticket.Ticket.Ticket, name.RulesetKind.RulesetKind, name.RulesetKind.TheVariants.Filter, name.RulesetKind.TheVariants.Table, entry.RulesetTicket.RulesetTicket}, Laws.Tickets.{IsFew, IsWithin as AreTicketsWithin, AreOnce}, Mentions.after as moved_by, Names.{tickets_from, ticket}, Tickets.{Loaded, PlainTickets, offered_as, loaded, content}}
use Rattle.pf_core.specs.{Durable.Changes.{is_in_order, PlainDurable, PlainChange, applied, after}, History.tickets_in, Laws.Worlds.{CommitsNameOnce, given_by, tickets_since, GivesEachOnce, KeepsTheLimits, failed_by, failed_since}, Laws.Wanted.wants, declared.{command.Command.Command, command.HistoryCommand.HistoryCommand, reply.Answer.Answer, reply.Outcome.Outcome, reply.Refusal.Refusal, reply.Reply.Reply, reply.Reply.TheVariants.Answer as Answered, reply.Reply.TheVariants.Applied, reply.Reply.TheVariants.Stored, reply.Reply.TheVariants.Refused, step.Step.Step, step.Step.TheVariants.Done, step.Step.TheVariants.Wants, step.Step.TheVariants.OfHistory}, Calls.{call, mentions_of, mentions_of_group, replies_in, Call}, Commands.{item_of, items, step_by, may_change, mentioned}, Laws.Durable.IsWithin, Worlds.{CurrentOpening, log_of, durable_of, is_halted, step_in, history_answer, room_for, or_refused, due_at, due, StandsIn, LegalReply, LegalReplies, State, up, down, raised, Upshot, Doing, idle, calling, grouping, Event, called, called_group, entered, learned, crashed, opened, refused_opening, flat, group_in, kept_groups, acked_by, is_fault, pending_by, acked_by_group, pending_by_group, grouped, changes_due, group_all, heard, heard_group, sighted, next, LegalCall, LegalGroup, IsLegal, state_after, IsLegalFrom, IsWorld}}
use Rattle.pf_core.proofs.{Checks.named_none, Courses.{durable-amid, length-with, course-within, IsTaken, taken-or-not, accepted, group-reported, unkept-group}, Groups.{IsKept, IsNotKept, kept-or-not, either, room-of}, Stepping.{AreTicketsGiven, none-reported, answered-reported, left-reported, applied-reported, unhalted, change-within}, LongerWorlds.{flat-push, refused-unkept}, Switching.named-alone}
use Rattle.pf_map.proofs.Tests.{true_of}
use Rattle.pf_ticket.proofs.{TicketLimits.keeps_the_limits as tickets_keep, Twice.gives_each_once as once_given}

-- ---- by the reply

-- what whoever keeps the history answers
pub record IsOfHistory (h : CurrentOpening) (s : Result Step Refusal) (a : Answer) : Type 0 where
  pub command : HistoryCommand
  pub left : s ≡ Ok (OfHistory command)
  pub answer : a ≡ history_answer h command

pub answered-step : (h : CurrentOpening) (s : Result Step Refusal) (a : Answer) → Answered a ≡ due_at h s → (s ≡ Ok (Done a)) ⊎ IsOfHistory h s a
answered-step h (Ok (Done b)) a is = let same : a ≡ b = cc (is) in inl (ap (λ (x : Answer). Ok (Done x)) (sym same))
answered-step h (Ok (OfHistory c)) a is = inr (record { command = c; left = refl; answer = cc (is) })
answered-step h (Ok (Wants e o)) a is = absurd (no-answer (room_for h (e ∷ [])) is) where
  no-answer : (room : Result (Unit {0}) Refusal) → Answered a ≡ or_refused room (Applied (length (log_of h) + 1) o) → ⊥
  no-answer (Ok u) is = cc (is)
  no-answer (Err x) is = cc (is)
answered-step h (Err e) a is = absurd (cc (is))

-- what was applied was kept
pub record IsApplied (h : CurrentOpening) (s : Result Step Refusal) (n : ℕ) : Type 0 where
  pub kept : IsKept h s
  pub number : n ≡ length (log_of h) + 1

pub applied-step : (h : CurrentOpening) (s : Result Step Refusal) (n : ℕ) (o : Outcome) → Applied n o ≡ due_at h s → IsApplied h s n
applied-step h s n o is = by (kept-or-not h s) where
  by : IsKept h s ⊎ IsNotKept h s → IsApplied h s n
  by (inl k) = record { kept = k; number = cc (is, k.reply) }
  by (inr none) = absurd (none.reply n o is)

-- so was what was stored
stored-undue : (h : CurrentOpening) (s : Result Step Refusal) (n : ℕ) (o : Outcome) → Stored n o ≡ due_at h s → ⊥
stored-undue h (Ok (Done a)) n o is = cc (is)
stored-undue h (Ok (OfHistory c)) n o is = cc (is)
stored-undue h (Err e) n o is = cc (is)
stored-undue h (Ok (Wants e p)) n o is = by (room_for h (e ∷ [])) is where
  by : (room : Result (Unit {0}) Refusal) → Stored n o ≡ or_refused room (Applied (length (log_of h) + 1) p) → ⊥
  by (Ok u) is = cc (is)
  by (Err x) is = cc (is)

stored-stands : (h : CurrentOpening) (c : Command) (failed : Bool) (reported : Reply) (n : ℕ) (o : Outcome) → StandsIn h c failed reported (Stored n o) → Applied n o ≡ reported
stored-stands h c failed (Applied m p) n o stands = cc (stands.0, stands.1)
stored-stands h c failed reported n o stands = absurd stands

pub stored-step : (h : CurrentOpening) (c : Command) (n : ℕ) (o : Outcome) (failed : Bool) → LegalReply h c (Stored n o) failed → IsApplied h (step_in h c) n
stored-step h c n o failed (inl is) = absurd (stored-undue h (step_in h c) n o is)
stored-step h c n o failed (inr stands) = applied-step h (step_in h c) n o (stored-stands h c failed (due h c) n o stands)

-- the change is the one that the command is due
due-wanted : (h : CurrentOpening) (c : Command) (k : IsKept h (step_in h c)) → step_by h.tickets (durable_of h) c ≡ Ok (Wants k.change k.outcome)
due-wanted h c k = unhalted (may_change c && is_halted h.pending) (step_by h.tickets (durable_of h) c) (Wants k.change k.outcome) k.wanted

pub legal-reported : (h : CurrentOpening) (c : Command) (r : Reply) (failed : Bool) → LegalReply h c r failed → AreTicketsGiven h.tickets (moved_by h.tickets (mentions_of (call c r))) (tickets_in r)
legal-reported h c (Answered a) failed (inl is) = by (answered-step h (step_in h c) a is) where
  halted : Bool
  halted = may_change c && is_halted h.pending

  own : Result Step Refusal
  own = step_by h.tickets (durable_of h) c

  by : (step_in h c ≡ Ok (Done a)) ⊎ IsOfHistory h (step_in h c) a → AreTicketsGiven h.tickets (moved_by h.tickets (mentioned c)) (tickets_in (Answered a))
  by (inl done) = answered-reported h.tickets (durable_of h) c a (unhalted halted own (Done a) done)
  by (inr k) = left-reported h h.tickets (durable_of h) c k.command a (unhalted halted own (OfHistory k.command) k.left) k.answer
legal-reported h c (Answered a) failed (inr none) = absurd none
legal-reported h c (Applied n o) failed (inl is) =
    let k : IsKept h (step_in h c) = (applied-step h (step_in h c) n o is).kept in
    applied-reported h.tickets (durable_of h) c k.change (wants h.tickets (durable_of h) c k.change k.outcome (due-wanted h c k))
legal-reported h c (Applied n o) failed (inr none) = absurd none
legal-reported h c (Stored n o) failed legal =
    let k : IsKept h (step_in h c) = (stored-step h c n o failed legal).kept in
    applied-reported h.tickets (durable_of h) c k.change (wants h.tickets (durable_of h) c k.change k.outcome (due-wanted h c k))
legal-reported h c (Refused e) failed legal = none-reported h.tickets h.tickets (λ w. w) (record { epoch = refl; next = omega arith })

-- ---- one more event

-- What holds of the groups of an opening, as far as it has come. What is kept is within the limits after each front that a crash may keep.
record IsLogged (first base : PlainDurable) (limit : ℕ) (acked pending : List (List PlainChange)) : Type 0 where
  one : length pending ≤ 1
  room : length (flat (acked ++ pending)) ≤ limit
  kept : IsWithin first → (n : ℕ) → IsWithin (after base (flat (acked ++ take n pending)))

-- what holds of an opening's transactions, with these tickets given
record AreNumbered (own : ℕ) (t : PlainTickets) (ts : List Ticket) : Type 0 where
  within : AreTicketsWithin t
  epoch : t.epoch ≡ own
  next : t.next ≡ 1 + length ts
  numbered : ts ≡ tickets_from own 1 (length ts)

-- what holds of an opening, with these tickets given, and whether its device failed
record Holds (first : PlainDurable) (h : CurrentOpening) (ts : List Ticket) (failed : Bool) : Type 0 where
  tickets : AreNumbered h.base.epoch h.tickets ts
  quiet : failed ≡ false → h.pending ≡ []
  logged : IsLogged first h.base h.setting.limit h.acked h.pending

more-from : (epoch count n m : ℕ) → tickets_from epoch count (n + m) ≡ tickets_from epoch count n ++ tickets_from epoch (count + n) m
more-from epoch count zero m =
    let none : 0 + m ≡ m = omega arith in
    let same : count ≡ count + 0 = omega arith in
    ap (tickets_from epoch count) none ∙ ap (λ (k : ℕ). tickets_from epoch k m) same
more-from epoch count (suc n) m =
    let first : suc n + m ≡ suc (n + m) = omega arith in
    let later : count + 1 + n ≡ count + suc n = omega arith in
    ap (tickets_from epoch count) first ∙ ap (λ (ts : List Ticket). ticket epoch count ∷ ts) (more-from epoch (count + 1) n m ∙ ap (λ (k : ℕ). tickets_from epoch (count + 1) n ++ tickets_from epoch k m) later)

numbered-on : (epoch : ℕ) (ts us : List Ticket) → ts ≡ tickets_from epoch 1 (length ts) → us ≡ tickets_from epoch (1 + length ts) (length us) → ts ++ us ≡ tickets_from epoch 1 (length (ts ++ us))
numbered-on epoch ts us old new =
    ap (λ (xs : List Ticket). xs ++ us) old ∙ ap (λ (xs : List Ticket). tickets_from epoch 1 (length ts) ++ xs) new ∙ sym (more-from epoch 1 (length ts) (length us)) ∙ ap (tickets_from epoch 1) (sym (length-append ts us))

-- with the tickets of one more reply
numbered-more : (epoch : ℕ) (t new : PlainTickets) (ts us : List Ticket) → AreTicketsGiven t new us → AreNumbered epoch t ts → AreNumbered epoch new (ts ++ us)
numbered-more epoch t new ts us reported all =
    let before : t.next ≡ 1 + length ts = all.next in
    let count : new.next ≡ t.next + length us = reported.given.next in
    record {
      within = reported.within all.within;
      epoch = reported.given.epoch ∙ all.epoch;
      next = omega (arith, count, before, length-append ts us);
      numbered = numbered-on epoch ts us all.numbered (reported.reported ∙ ap (λ (e : ℕ). tickets_from e t.next (length us)) all.epoch ∙ ap (λ (n : ℕ). tickets_from epoch n (length us)) before);
    }

-- what was acknowledged is kept within the limits
acked-within : (first : PlainDurable) (h : CurrentOpening) (ts : List Ticket) (failed : Bool) → Holds first h ts failed → IsWithin first → IsWithin (durable_of h)
acked-within first h ts failed all within = subst (λ (gs : List (List PlainChange)). IsWithin (after h.base (flat gs))) (append-nil h.acked) (all.logged.kept within 0)

-- the group of one more change, kept or not
one-more : (first : PlainDurable) (h : CurrentOpening) (ts : List Ticket) (failed : Bool) (c : Command) → Holds first h ts failed → h.pending ≡ [] → (k : IsKept h (step_in h c)) → IsLogged first h.base h.setting.limit h.acked ((k.change ∷ []) ∷ [])
one-more first h ts failed c all none k =
    let log : length (log_of h) ≡ length (flat h.acked) = ap (λ (gs : List (List PlainChange)). length (flat (h.acked ++ gs))) none ∙ ap (λ (gs : List (List PlainChange)). length (flat gs)) (append-nil h.acked) in
    let more : length (flat (h.acked ++ (k.change ∷ []) ∷ [])) ≡ length (flat h.acked) + 1 = ap length (flat-push h.acked k.change) ∙ length-append (flat h.acked) (k.change ∷ []) in
    let room : length (log_of h) + 1 ≤ h.setting.limit = k.room in
    record { one = omega arith; room = omega (arith, log, more, room); kept = fronts } where
      fronts : IsWithin first → (n : ℕ) → IsWithin (after h.base (flat (h.acked ++ take n ((k.change ∷ []) ∷ []))))
      fronts within zero = all.logged.kept within 0
      fronts within (suc n) =
          rw (take-nil n) (subst (λ (d : PlainDurable). IsWithin d) (sym (ap (after h.base) (flat-push h.acked k.change) ∙ fold_push applied h.base (flat h.acked) k.change))
          (change-within h.tickets (durable_of h) c k.change k.outcome (due-wanted h c k) all.tickets.within (acked-within first h ts failed all within)))

-- no group leaves the log as it is
unlogged : (first : PlainDurable) (h : CurrentOpening) (g : List (List PlainChange)) → g ≡ [] → IsLogged first h.base h.setting.limit h.acked h.pending → IsLogged first h.base h.setting.limit h.acked (h.pending ++ g)
unlogged first h g none old = subst (λ (gs : List (List PlainChange)). IsLogged first h.base h.setting.limit h.acked gs) (sym (ap (λ (gs : List (List PlainChange)). h.pending ++ gs) none ∙ append-nil h.pending)) old

-- a group that may be left may be acknowledged
acked-logged : (first : PlainDurable) (h : CurrentOpening) (g : List (List PlainChange)) → IsLogged first h.base h.setting.limit h.acked g → IsLogged first h.base h.setting.limit (h.acked ++ g) []
acked-logged first h g left =
    let room : length (flat (h.acked ++ g)) ≤ h.setting.limit = left.room in
    record {
      one = omega arith;
      room = subst (λ (gs : List (List PlainChange)). length (flat gs) ≤ h.setting.limit) (sym (append-nil (h.acked ++ g))) room;
      kept = λ within n. rw (take-nil n) (subst (λ (gs : List (List PlainChange)). IsWithin (after h.base (flat gs))) (sym (append-nil (h.acked ++ g)))
          (subst (λ (gs : List (List PlainChange)). IsWithin (after h.base (flat (h.acked ++ gs)))) (take-length g) (left.kept within (length g))));
    }

-- what a command's group may leave in the log, unacknowledged
group-logged : (first : PlainDurable) (h : CurrentOpening) (ts : List Ticket) (failed : Bool) (c : Command) → Holds first h ts failed → IsLogged first h.base h.setting.limit h.acked (h.pending ++ group_in h c)
group-logged first h ts failed c all = by (either h c) (kept-or-not h (step_in h c)) where
  by : (h.pending ≡ []) ⊎ (group_in h c ≡ []) → IsKept h (step_in h c) ⊎ IsNotKept h (step_in h c) → IsLogged first h.base h.setting.limit h.acked (h.pending ++ group_in h c)
  by (inr none) k = unlogged first h (group_in h c) none all.logged
  by (inl none) (inr not) = unlogged first h (group_in h c) not.group all.logged
  by (inl none) (inl k) = subst (λ (gs : List (List PlainChange)). IsLogged first h.base h.setting.limit h.acked gs) (sym (ap (λ (gs : List (List PlainChange)). gs ++ group_in h c) none ∙ k.group)) (one-more first h ts failed c all none k)

applied-logged : (first : PlainDurable) (h : CurrentOpening) (ts : List Ticket) (failed : Bool) (c : Command) (n : ℕ) → IsApplied h (step_in h c) n → Holds first h ts failed → IsLogged first h.base h.setting.limit (h.acked ++ group_in h c) (h.pending ++ [])
applied-logged first h ts failed c n was all = by (either h c) where
  k : IsKept h (step_in h c)
  k = was.kept

  by : (h.pending ≡ []) ⊎ (group_in h c ≡ []) → IsLogged first h.base h.setting.limit (h.acked ++ group_in h c) (h.pending ++ [])
  by (inr none) = absurd (cc (none, k.group))
  by (inl none) = subst (λ (gs : List (List PlainChange)). IsLogged first h.base h.setting.limit (h.acked ++ group_in h c) gs) (sym (append-nil h.pending ∙ none))
      (acked-logged first h (group_in h c) (subst (λ (gs : List (List PlainChange)). IsLogged first h.base h.setting.limit h.acked gs) (sym k.group) (one-more first h ts failed c all none k)))

still-logged : (first : PlainDurable) (h : CurrentOpening) → IsLogged first h.base h.setting.limit h.acked h.pending → IsLogged first h.base h.setting.limit (h.acked ++ []) (h.pending ++ [])
still-logged first h old = rw (append-nil h.acked, append-nil h.pending) old

refused-logged : (first : PlainDurable) (h : CurrentOpening) (g : List (List PlainChange)) (fault : Bool) → IsLogged first h.base h.setting.limit h.acked h.pending → IsLogged first h.base h.setting.limit h.acked (h.pending ++ g) → IsLogged first h.base h.setting.limit (h.acked ++ []) (h.pending ++ cond fault g [])
refused-logged first h g true old new = subst (λ (gs : List (List PlainChange)). IsLogged first h.base h.setting.limit gs (h.pending ++ g)) (sym (append-nil h.acked)) new
refused-logged first h g false old new = still-logged first h old

logged-on : (first : PlainDurable) (h : CurrentOpening) (ts : List Ticket) (was : Bool) (c : Command) (r : Reply) (failed : Bool) → LegalReply h c r failed → Holds first h ts was →
    IsLogged first h.base h.setting.limit (h.acked ++ acked_by r (group_in h c)) (h.pending ++ pending_by r (group_in h c))
logged-on first h ts was c (Answered a) failed legal all = still-logged first h all.logged
logged-on first h ts was c (Applied n o) failed (inl is) all = applied-logged first h ts was c n (applied-step h (step_in h c) n o is) all
logged-on first h ts was c (Applied n o) failed (inr none) all = absurd none
logged-on first h ts was c (Stored n o) failed legal all = applied-logged first h ts was c n (stored-step h c n o failed legal) all
logged-on first h ts was c (Refused e) failed legal all = refused-logged first h (group_in h c) (is_fault e) all.logged (group-logged first h ts was c all)

-- if the device didn't fail, no group is left
quiet-on : (h : CurrentOpening) (c : Command) (r : Reply) (was failed : Bool) → LegalReply h c r failed → (was ≡ false → h.pending ≡ []) → (was || failed) ≡ false → h.pending ++ pending_by r (group_in h c) ≡ []
quiet-on h c r true failed legal quiet none = absurd (cc (none))
quiet-on h c r false true legal quiet none = absurd (cc (none))
quiet-on h c r false false legal quiet none = ap (λ (gs : List (List PlainChange)). gs ++ pending_by r (group_in h c)) (quiet refl) ∙ by r legal where
  by : (r : Reply) → LegalReply h c r false → pending_by r (group_in h c) ≡ []
  by (Answered a) legal = refl
  by (Applied n o) legal = refl
  by (Stored n o) legal = refl
  by (Refused e) legal = refused-unkept h c e legal

holds-on : (first : PlainDurable) (h : CurrentOpening) (ts : List Ticket) (failed : Bool) (c : Call) (t : Upshot) → LegalCall h c t → Holds first h ts failed → Holds first (heard h c t) (ts ++ tickets_in c.reply) (failed || t.failed)
holds-on first h ts failed c t legal all = record {
  tickets = numbered-more h.base.epoch h.tickets (moved_by h.tickets (mentions_of c)) ts (tickets_in c.reply) (legal-reported h c.command c.reply t.failed legal.reply) all.tickets;
  quiet = quiet-on h c.command c.reply failed t.failed legal.reply all.quiet;
  logged = logged-on first h ts failed c.command c.reply t.failed legal.reply all;
}

-- ---- one more group

-- what a group that isn't refused whole may leave in the log
taken-logged : (first : PlainDurable) (h : CurrentOpening) (ts : List Ticket) (failed : Bool) (cs : List Command) → Holds first h ts failed → IsTaken h cs → IsLogged first h.base h.setting.limit h.acked (group_all h cs)
taken-logged first h ts failed cs all taken = subst (λ (gs : List (List PlainChange)). IsLogged first h.base h.setting.limit h.acked gs) (sym taken.group) (by (changes_due h [] cs) refl) where
  changes : List PlainChange
  changes = changes_due h [] cs

  old : length (flat (h.acked ++ h.pending)) ≤ h.setting.limit
  old = all.logged.room

  room : length (flat h.acked) + length changes ≤ h.setting.limit
  room =
      let log : length (log_of h) ≡ length (flat h.acked) = ap (λ (gs : List (List PlainChange)). length (flat (h.acked ++ gs))) taken.none ∙ ap (λ (gs : List (List PlainChange)). length (flat gs)) (append-nil h.acked) in
      let found : length (log_of h) + length changes ≤ h.setting.limit = room-of h changes old taken.room in
      omega (arith, log, found)

  kept : IsWithin first → IsWithin (after (durable_of h) changes)
  kept within = course-within h [] cs all.tickets.within (acked-within first h ts failed all within)

  by : (es : List PlainChange) → changes ≡ es → IsLogged first h.base h.setting.limit h.acked (grouped es)
  by es is = record {
    one = few es;
    room = let long : length (flat (h.acked ++ grouped es)) ≡ length (flat h.acked) + length es = length-with h.acked es in
        let same : length changes ≡ length es = ap length is in omega (arith, long, same, room);
    kept = fronts es is;
  } where
    few : (es : List PlainChange) → length (grouped es) ≤ 1
    few [] = omega arith
    few (e ∷ es) = omega arith

    fronts : (es : List PlainChange) → changes ≡ es → IsWithin first → (n : ℕ) → IsWithin (after h.base (flat (h.acked ++ take n (grouped es))))
    fronts es is within zero = all.logged.kept within 0
    fronts [] is within (suc n) = all.logged.kept within 0
    fronts (e ∷ es) is within (suc n) =
        rw (take-nil n) (subst (λ (d : PlainDurable). IsWithin d) (sym (durable-amid h (e ∷ es))) (subst (λ (xs : List PlainChange). IsWithin (after (durable_of h) xs)) is (kept within)))

-- what any group may leave in it, unacknowledged
all-logged : (first : PlainDurable) (h : CurrentOpening) (ts : List Ticket) (failed : Bool) (cs : List Command) → Holds first h ts failed → IsLogged first h.base h.setting.limit h.acked (h.pending ++ group_all h cs)
all-logged first h ts failed cs all = by (taken-or-not h cs) where
  by : IsTaken h cs ⊎ (group_all h cs ≡ []) → IsLogged first h.base h.setting.limit h.acked (h.pending ++ group_all h cs)
  by (inl taken) = subst (λ (gs : List (List PlainChange)). IsLogged first h.base h.setting.limit h.acked (gs ++ group_all h cs)) (sym taken.none) (taken-logged first h ts failed cs all taken)
  by (inr none) = unlogged first h (group_all h cs) none all.logged

logged-on-group : (first : PlainDurable) (h : CurrentOpening) (ts : List Ticket) (was : Bool) (cs : List Command) (result : Result (List Reply) Refusal) (failed : Bool) → LegalReplies h cs result failed → Holds first h ts was →
    IsLogged first h.base h.setting.limit (h.acked ++ acked_by_group result (group_all h cs)) (h.pending ++ pending_by_group result (group_all h cs))
logged-on-group first h ts was cs (Ok rs) failed legal all =
    let taken : IsTaken h cs = (accepted h cs rs failed legal).taken in
    subst (λ (gs : List (List PlainChange)). IsLogged first h.base h.setting.limit (h.acked ++ group_all h cs) gs) (sym (append-nil h.pending ∙ taken.none)) (acked-logged first h (group_all h cs) (taken-logged first h ts was cs all taken))
logged-on-group first h ts was cs (Err e) failed legal all = refused-logged first h (group_all h cs) (is_fault e) all.logged (all-logged first h ts was cs all)

quiet-on-group : (h : CurrentOpening) (cs : List Command) (result : Result (List Reply) Refusal) (was failed : Bool) → LegalReplies h cs result failed → (was ≡ false → h.pending ≡ []) → (was || failed) ≡ false → h.pending ++ pending_by_group result (group_all h cs) ≡ []
quiet-on-group h cs result true failed legal quiet none = absurd (cc (none))
quiet-on-group h cs result false true legal quiet none = absurd (cc (none))
quiet-on-group h cs result false false legal quiet none = ap (λ (gs : List (List PlainChange)). gs ++ pending_by_group result (group_all h cs)) (quiet refl) ∙ by result legal where
  by : (result : Result (List Reply) Refusal) → LegalReplies h cs result false → pending_by_group result (group_all h cs) ≡ []
  by (Ok rs) legal = refl
  by (Err e) legal = unkept-group h cs e legal

holds-on-group : (first : PlainDurable) (h : CurrentOpening) (ts : List Ticket) (failed : Bool) (cs : List Command) (result : Result (List Reply) Refusal) (t : Upshot) → LegalGroup h cs result t → Holds first h ts failed
    → Holds first (heard_group h cs result t) (ts ++ flat_map tickets_in (replies_in result)) (failed || t.failed)
holds-on-group first h ts failed cs result t legal all = record {
  tickets = numbered-more h.base.epoch h.tickets (moved_by h.tickets (mentions_of_group cs result)) ts (flat_map tickets_in (replies_in result)) (group-reported h cs result t.failed legal.reply) all.tickets;
  quiet = quiet-on-group h cs result failed t.failed legal.reply all.quiet;
  logged = logged-on-group first h ts failed cs result t.failed legal.reply all;
}

-- ---- whatever else comes

-- what is seen changes nothing of it
holds-sighted : (first : PlainDurable) (h : CurrentOpening) (ts : List Ticket) (failed : Bool) (w n : ℕ) → Holds first h ts failed → Holds first (sighted h w n) ts failed
holds-sighted first h ts failed w n all = record { tickets = all.tickets; quiet = all.quiet; logged = all.logged }

-- whatever a crash keeps is within the limits
crash-within : (first : PlainDurable) (h : CurrentOpening) (ts : List Ticket) (failed : Bool) (doing : Doing) (n : ℕ) → Holds first h ts failed → IsWithin first → IsWithin (after h.base (flat (kept_groups h doing n)))
crash-within first h ts failed idle n all within = subst (λ (gs : List (List PlainChange)). IsWithin (after h.base (flat (h.acked ++ take n gs)))) (sym (append-nil h.pending)) (all.logged.kept within n)
crash-within first h ts failed (calling c) n all within = (group-logged first h ts failed c all).kept within n
crash-within first h ts failed (grouping cs) n all within = (all-logged first h ts failed cs all).kept within n

-- ---- a whole world

-- what holds of each state
abbrev HoldsOf : PlainDurable → State → List Ticket → Bool → Type 0
HoldsOf first (up h) ts failed = Holds first h ts failed
HoldsOf first (down d) ts failed = IsWithin first → IsWithin d

within-raised : (d : PlainDurable) → IsWithin d → IsWithin (raised d)
within-raised d w = record { maps = w.maps; rulesets = w.rulesets; rules = w.rules; tables = w.tables; entries = w.entries; states = w.states; standing = w.standing }

holds-next : (first : PlainDurable) (st : State) (ts : List Ticket) (failed : Bool) (e : Event) → IsLegal st e → HoldsOf first st ts failed → HoldsOf first (next st e) (given_by ts e) (failed_by failed e)
holds-next first (up h) ts failed (called c t) legal all = holds-on first h ts failed c t legal all
holds-next first (up h) ts failed (called_group cs result t) legal all = holds-on-group first h ts failed cs result t legal all
holds-next first (up h) ts failed (entered w n) legal all = holds-sighted first h ts failed w n all
holds-next first (up h) ts failed (learned w n) legal all = holds-sighted first h ts failed w n all
holds-next first (up h) ts failed (crashed doing n) legal all = crash-within first h ts failed doing n all
holds-next first (down d) ts failed (opened setting) legal all = record {
  tickets = record { within = tickets_keep.first (d.epoch + 1); epoch = refl; next = omega arith; numbered = refl };
  quiet = λ none. refl;
  logged = record { one = omega arith; room = omega arith; kept = λ within n. rw (take-nil n) (within-raised d (all within)) };
}
holds-next first (down d) ts failed (refused_opening true) legal all = λ within. within-raised d (all within)
holds-next first (down d) ts failed (refused_opening false) legal all = all
holds-next first st ts failed e legal all = absurd legal

holds-from : (first : PlainDurable) (st : State) (ts : List Ticket) (failed : Bool) (world : List Event) → IsLegalFrom st world → HoldsOf first st ts failed → HoldsOf first (state_after st world) (fold given_by ts world) (fold failed_by failed world)
holds-from first st ts failed [] legal all = all
holds-from first st ts failed (e ∷ es) legal all = holds-from first (next st e) (given_by ts e) (failed_by failed e) es legal.1 (holds-next first st ts failed e legal.0 all)

holds-after : (first : PlainDurable) (world : List Event) (h : CurrentOpening) → IsWorld first world → state_after (down first) world ≡ up h → Holds first h (tickets_since world) (failed_since world)
holds-after first world h legal comes =
    subst (λ (st : State). HoldsOf first st (tickets_since world) (failed_since world)) comes (holds-from first (down first) [] false world legal (λ within. within))

pub gives_each_once : GivesEachOnce
gives_each_once first world h legal comes =
    let numbered : tickets_since world ≡ tickets_from h.base.epoch 1 (length (tickets_since world)) = (holds-after first world h legal comes).tickets.numbered in
    record { numbered = numbered; once = subst AreOnce (sym numbered) (once_given h.base.epoch 1 (length (tickets_since world))) }

pub keeps_the_limits : KeepsTheLimits
keeps_the_limits first world h within legal comes =
    let all : Holds first h (tickets_since world) (failed_since world) = holds-after first world h legal comes in
    record { tickets = all.tickets.within; log = all.logged.room; kept = acked-within first h (tickets_since world) (failed_since world) all within }

-- at most one group isn't acknowledged, and none if the device didn't fail
pub record AreFewUnacknowledged (world : List Event) (h : CurrentOpening) : Type 0 where
  pub one : length h.pending ≤ 1
  pub none : failed_since world ≡ false → h.pending ≡ []

pub few-unacknowledged : (first : PlainDurable) (world : List Event) (h : CurrentOpening) → IsWorld first world → state_after (down first) world ≡ up h → AreFewUnacknowledged world h
few-unacknowledged first world h legal comes =
    let all : Holds first h (tickets_since world) (failed_since world) = holds-after first world h legal comes in
    record { one = all.logged.one; none = all.quiet }

-- ---- no name twice

item-ordered : (k : RulesetKind) (p : List ℕ) (l : Loaded) → IsFew (offered_as k l) → is_in_order (item_of (record { kind = k; path = p }) (offered_as k l)) ≡ true
item-ordered Filter p l few = refl
item-ordered Table p l few = true_of (is_sorted name_order l.tables) few.order

items-ordered : (t : PlainTickets) (es : List RulesetTicket) → AreTicketsWithin t → list_all is_in_order (items (content t) es) ≡ true
items-ordered t [] all = refl
items-ordered t (e ∷ es) all = ap (λ (b : Bool). b && list_all is_in_order (items (content t) es)) (item-ordered e.name.kind e.name.path (loaded t e.name) (all.offered e.name)) ∙ items-ordered t es all

pub commits_name_once : CommitsNameOnce
commits_name_once first world h legal comes entries good =
    named_none (items (content h.tickets) entries) (named-alone h.tickets entries good) (items-ordered h.tickets entries (holds-after first world h legal comes).tickets.within)
