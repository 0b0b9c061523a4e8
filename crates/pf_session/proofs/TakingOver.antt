-- The lines of an export, given to a Book one by one.
use Rattle.std.proofs.{Common.{◌≡◌, ◌⊎◌, ◌+◌, ◌<◌, ◌≤◌, ℕ, Bool, true, false, cond, List, [], ◌∷◌, ◌++◌, length, length-append, append-nil, map, Option, Some, Result, Ok, Err, inl, inr, refl, sym, subst, ap, ◌∙◌, append_assoc, arith}, lemmas.Bool.Decides.nat_tests, lemmas.List.length-map, lemmas.List.Sums.{fold-append, fold_push}}
use Rattle.std.specs.List.{flat_map}
use Rattle.pf_core.specs.declared.{command.Command.Command, command.Command.TheVariants.States, command.StateCommand.TheVariants.Peer, reply.Outcome.Outcome, reply.Outcome.TheVariants.Peered, reply.Refusal.Refusal, reply.Refusal.TheVariants.{Halted, HistoryFull, Full, Fault, Memory}, reply.Reply.Reply, reply.Reply.TheVariants.{Applied, Stored, Refused}, step.Step.Step, step.Step.TheVariants.Wants, durable.refusal.ChangeRefusal.TheVariants.{BadTick, StatesFull}}
use Rattle.pf_core.specs.{Calls.call, Commands.{steps_here, states_step, unless_unfit}, Durable.Changes.{PlainDurable, PlainChange, main_sum, kept_nothing, acts, applied, after}, WorldBooks.{WorldBook, IsAt, StandsFor}, Worlds.{Setting, Upshot, CurrentOpening, State, up, down, flat, log_of, durable_of, is_halted, step_in, room_for, due, due_at, group_in, group_at, or_refused, if_ok, grouped, Event, called, acked_by, pending_by, opened, begun, raised, heard, next, StandsIn, LegalCall, state_after, IsLegalFrom}}
use Rattle.pf_addr.specs.Refusing.{and_then, unless}
use Rattle.pf_state.proofs.Asked.{inserts_nothing_due}
use Rattle.pf_core.proofs.{Groups.room-found, LongerWorlds.flat-push}
use Rattle.pf_line.specs.{declared.{request.Request.Request, request.Request.TheVariants.Run}, Laws.Exports.{Message, StateStep, message_text, main_count, exported_lines, TellsOf, CanBeExported, states_there}, Failover.Outgoing.exported_messages, Lines.line_at, Peer.Written.Each, Reply.Replies.reply_text, StateTables.PlainState, Steps.{after as stepped_on, stepped, is_over, passes_limit, counts}}
use Rattle.pf_line.proofs.{ExportedLines.exports_are_read, Lines.one_meaning, TakenOver.takes_over as states_taken}
use Rattle.std.specs.Prelude.{nat_lt}
use Rattle.pf_book.specs.Books.{PlainBook, world_book}
use Rattle.pf_session.specs.{Serving.{CallsBook, CallsOrShows, Serves}, Telling.{IsReplyTo, Says}, Laws.Takeover.{held_in, IsReadyFor, IsWant, WasRefused, TakesOver, FreshTakesOver}}
use Rattle.std.proofs.lemmas.Bool.{or_parts}

-- ---- steps in two parts

fit-apart : (es : List PlainState) (xs ys : List StateStep) → passes_limit es (xs ++ ys) ≡ false → (passes_limit es xs ≡ false) × (passes_limit (stepped_on es xs) ys ≡ false)
unfolding passes_limit
fit-apart es [] ys h = (refl, h)
fit-apart es (x ∷ xs) ys h =
    let apart = or_parts (is_over (stepped es x)) (passes_limit (stepped es x) (xs ++ ys)) h in
    let rest = fit-apart (stepped es x) xs ys apart.1 in
    (rw (apart.0, rest.0) refl, rest.1)

-- ---- one message

abbrev change : PlainDurable → Message → PlainChange
change d m = acts (steps_here d m)

-- it is due, and leaves what was changed by its steps
record IsTaken (h : CurrentOpening) (d : PlainDurable) (m : Message) : Type 0 where
  number : ℕ
  outcome : Outcome
  reply : due h (States (Peer m)) ≡ Applied number outcome
  group : group_in h (States (Peer m)) ≡ (change d m ∷ []) ∷ []

-- or the device has no room for it
full-room : (h : CurrentOpening) (e : PlainChange) → length (log_of h) < h.setting.limit → h.setting.is_full h.base h.acked (e ∷ []) ≡ true → room_for h (e ∷ []) ≡ Err Full
full-room h e few full =
    let low : nat_lt h.setting.limit (length (log_of h) + 1) ≡ false = grind (arith, nat_tests, few) in
    ap (λ (b : Bool). cond b (Err HistoryFull) (cond (h.setting.is_full h.base h.acked (e ∷ [])) (Err Full) (Ok tt))) low ∙ ap (λ (b : Bool). cond b (Err Full) (Ok tt)) full

taken : (h : CurrentOpening) (d : PlainDurable) (m : Message) → durable_of h ≡ d → h.pending ≡ [] → passes_limit d.states (steps_here d m) ≡ false → length (log_of h) < h.setting.limit → IsTaken h d m ⊎ (due h (States (Peer m)) ≡ Refused Full)
taken h d m is none fits few = by (h.setting.is_full h.base h.acked (change d m ∷ [])) refl where
  reported : Outcome
  reported = Peered (counts d.states (steps_here d m))

  one : Result Step Refusal
  one = Ok (Wants (change d m) reported)

  step : step_in h (States (Peer m)) ≡ one
  step =
      ap (λ (gs : List (List PlainChange)). cond (is_halted gs) (Err Halted) (states_step (durable_of h) (Peer m))) none
      ∙ ap (λ (k : PlainDurable). states_step k (Peer m)) is
      ∙ ap (λ (b : Bool). unless_unfit (and_then (unless b BadTick) (unless (passes_limit d.states (steps_here d m)) StatesFull)) one) (inserts_nothing_due d.tick m (main_sum d) (main_count d))
      ∙ ap (λ (b : Bool). unless_unfit (unless b StatesFull) one) fits

  by : (full : Bool) → h.setting.is_full h.base h.acked (change d m ∷ []) ≡ full → IsTaken h d m ⊎ (due h (States (Peer m)) ≡ Refused Full)
  by false free =
      let room : room_for h (change d m ∷ []) ≡ Ok tt = room-found h (change d m) few free in
      inl (record {
        number = length (log_of h) + 1;
        outcome = reported;
        reply = ap (due_at h) step ∙ ap (λ (r : Result (Unit {0}) Refusal). or_refused r (Applied (length (log_of h) + 1) reported)) room;
        group = ap (group_at h) step ∙ ap (λ (r : Result (Unit {0}) Refusal). if_ok r (grouped (change d m ∷ [])) []) room;
      })
  by true full =
      inr (ap (due_at h) step ∙ ap (λ (r : Result (Unit {0}) Refusal). or_refused r (Applied (length (log_of h) + 1) reported)) (full-room h (change d m) few full))

-- the opening then
abbrev then : CurrentOpening → Message → Reply → Upshot → CurrentOpening
then h m r t = heard h (call (States (Peer m)) r) t

record IsThen (h : CurrentOpening) (d : PlainDurable) (m : Message) (new : CurrentOpening) : Type 0 where
  held : durable_of new ≡ applied d (change d m)
  long : length (log_of new) ≡ length (log_of h) + 1
  none : new.pending ≡ []

-- this reply acknowledges the group that is kept with it
record Acknowledges (r : Reply) (g : List (List PlainChange)) : Type 0 where
  acked : acked_by r g ≡ g
  pending : pending_by r g ≡ []

now : (h : CurrentOpening) (d : PlainDurable) (m : Message) (r : Reply) (t : Upshot) → durable_of h ≡ d → h.pending ≡ [] → (to : IsTaken h d m) → Acknowledges r (group_in h (States (Peer m))) → IsThen h d m (then h m r t)
now h d m r t is free to keeps =
    let group : List (List PlainChange) = group_in h (States (Peer m)) in
    let kept : acked_by r group ≡ (change d m ∷ []) ∷ [] = keeps.acked ∙ to.group in
    let none : h.pending ++ pending_by r group ≡ [] = ap (λ (l : List (List PlainChange)). h.pending ++ l) keeps.pending ∙ append-nil h.pending ∙ free in
    let more : flat (h.acked ++ (change d m ∷ []) ∷ []) ≡ flat h.acked ++ change d m ∷ [] = flat-push h.acked (change d m) in
    record {
      held = ap (λ (g : List (List PlainChange)). after h.base (flat (h.acked ++ g))) kept ∙ ap (after h.base) more ∙ fold_push applied h.base (flat h.acked) (change d m) ∙ ap (λ (k : PlainDurable). applied k (change d m)) is;
      long = ap (λ (g : List (List PlainChange)). length (flat ((h.acked ++ g) ++ (h.pending ++ pending_by r group)))) kept ∙ ap (λ (l : List (List PlainChange)). length (flat ((h.acked ++ (change d m ∷ []) ∷ []) ++ l))) none
          ∙ ap (λ (l : List (List PlainChange)). length (flat l)) (append-nil (h.acked ++ (change d m ∷ []) ∷ [])) ∙ ap length more ∙ length-append (flat h.acked) (change d m ∷ [])
          ∙ ap (λ (l : List (List PlainChange)). length (flat l) + 1) (sym (ap (λ (l : List (List PlainChange)). h.acked ++ l) free ∙ append-nil h.acked));
      none = none;
    }

-- why a reply keeps nothing
abbrev IsHindered : Reply → Type 0
IsHindered r = (why : Refusal) × IsWant why × (r ≡ Refused why)

-- where a change is due it is acknowledged, or refused for want of memory or for a fault
kept-or-refused : (h : CurrentOpening) (c : Command) (failed : Bool) (n : ℕ) (o : Outcome) (r : Reply) (g : List (List PlainChange)) → (r ≡ Applied n o) ⊎ StandsIn h c failed (Applied n o) r → Acknowledges r g ⊎ IsHindered r
kept-or-refused h c failed n o r g (inl is) = inl (subst (λ (x : Reply). Acknowledges x g) (sym is) (record { acked = refl; pending = refl }))
kept-or-refused h c failed n o (Stored m p) g (inr stands) = inl (record { acked = refl; pending = refl })
kept-or-refused h c failed n o (Refused Memory) g (inr stands) = inr (Memory, tt, refl)
kept-or-refused h c failed n o (Refused Fault) g (inr stands) = inr (Fault, tt, refl)
kept-or-refused h c failed n o r g (inr stands) = absurd stands

-- where there is no room it is refused
refused-all : (h : CurrentOpening) (c : Command) (failed : Bool) (r : Reply) → (r ≡ Refused Full) ⊎ StandsIn h c failed (Refused Full) r → IsHindered r
refused-all h c failed r (inl is) = (Full, tt, is)
refused-all h c failed (Refused Memory) (inr stands) = (Memory, tt, refl)
refused-all h c failed r (inr stands) = absurd stands

-- ---- a Book's openings

legal-onto : (st : State) (xs ys : List Event) → IsLegalFrom st (xs ++ ys) → IsLegalFrom (state_after st xs) ys
legal-onto st [] ys legal = legal
legal-onto st (x ∷ xs) ys legal = legal-onto (next st x) xs ys legal.1

up-is : (h k : CurrentOpening) → up h ≡ up k → h ≡ k
up-is h k e = cc (e)

held-at : (h : CurrentOpening) (b : WorldBook) → IsAt h b → held_in b ≡ durable_of h
held-at h b at = ap (λ (k : PlainDurable). after k (flat b.acked)) at.base ∙ ap (λ (l : List (List PlainChange)). after h.base (flat l)) at.acked

-- a Book stands for a world that leads to this opening
record Stands (start : PlainDurable) (h : CurrentOpening) (b : WorldBook) : Type 0 where
  world : List Event
  stands : StandsFor start b world
  comes : state_after (down start) world ≡ up h

is-at : (start : PlainDurable) (h : CurrentOpening) (b : WorldBook) → Stands start h b → IsAt h b
is-at start h b s = subst (λ (k : CurrentOpening). IsAt k b) (up-is s.stands.held h (sym s.stands.comes ∙ s.comes)) s.stands.at

-- a call of the Book is legal, and leads to what it leaves
stands-on : (start : PlainDurable) (h : CurrentOpening) (c : Command) (r : Reply) (t : Upshot) (a b : WorldBook) → Stands start h a
    → ((first : PlainDurable) (world : List Event) → StandsFor first a world → StandsFor first b (world ++ called (call c r) t ∷ []))
    → LegalCall h (call c r) t × Stands start (heard h (call c r) t) b
stands-on start h c r t a b s worlds =
    let all : StandsFor start b (s.world ++ called (call c r) t ∷ []) = worlds start s.world s.stands in
    let here : IsLegalFrom (up h) (called (call c r) t ∷ []) =
    subst (λ (st : State). IsLegalFrom st (called (call c r) t ∷ [])) s.comes (legal-onto (down start) s.world (called (call c r) t ∷ []) all.legal) in (
      here.0,
      record {
        world = s.world ++ called (call c r) t ∷ [];
        stands = all;
        comes = fold-append next (down start) s.world (called (call c r) t ∷ []) ∙ ap (λ (st : State). state_after st (called (call c r) t ∷ [])) s.comes;
      },
    )

-- ---- all of them

refused-first : (reply replies text : List ℕ) (why : Refusal) → IsWant why → text ≡ reply ++ replies → reply ≡ reply_text (Refused why) → WasRefused text
refused-first reply replies text why want is reported = record { why = why; is = want; front = []; following = replies; text_is = is ∙ ap (λ (l : List ℕ). l ++ replies) reported }

refused-later : (reply replies text : List ℕ) → text ≡ reply ++ replies → WasRefused replies → WasRefused text
refused-later reply replies text is was = record {
  why = was.why;
  is = was.is;
  front = reply ++ was.front;
  following = was.following;
  text_is = is ∙ ap (λ (l : List ℕ). reply ++ l) was.text_is ∙ sym (append_assoc reply was.front (reply_text (Refused was.why) ++ was.following));
}

-- a Book has the states that the steps of these messages leave, or some line was refused
abbrev StatesOrRefused : PlainDurable → List Message → WorldBook → List ℕ → Type 0
StatesOrRefused d ms b text = ((held_in b).states ≡ stepped_on d.states (flat_map (steps_here d) ms)) ⊎ WasRefused text

module _ {D : Type 0} (faults : D → ℕ) (start : PlainDurable) where
  -- one line, and then those that follow it
  one-line : (m : Message) (ms : List Message) (h : CurrentOpening) (d : PlainDurable) (a mid b : PlainBook D) (reply replies text : List ℕ) → durable_of h ≡ d → h.pending ≡ [] → TellsOf m (message_text m) → passes_limit d.states (flat_map (steps_here d) (m ∷ ms)) ≡ false →
      length (log_of h) + length (m ∷ ms) ≤ h.setting.limit → Stands start h (world_book a) → IsReplyTo (CallsOrShows faults) (message_text m) a mid reply → text ≡ reply ++ replies
      → ((r : Reply) (t : Upshot) → IsThen h d m (then h m r t) → passes_limit (applied d (change d m)).states (flat_map (steps_here d) ms) ≡ false
      → length (log_of (then h m r t)) + length ms ≤ h.setting.limit → Stands start (then h m r t) (world_book mid) → StatesOrRefused (applied d (change d m)) ms (world_book b) replies) → StatesOrRefused d (m ∷ ms) (world_book b) text
  one-line m ms h d a mid b reply replies text is free reported fits room stands by text_is on = of by where
    c : Command
    c = States (Peer m)

    apart : (passes_limit d.states (steps_here d m) ≡ false) × (passes_limit (stepped_on d.states (steps_here d m)) (flat_map (steps_here d) ms) ≡ false)
    apart = fit-apart d.states (steps_here d m) (flat_map (steps_here d) ms) fits

    by_reply : (r : Reply) (t : Upshot) → reply ≡ reply_text r → LegalCall h (call c r) t × Stands start (then h m r t) (world_book mid) → StatesOrRefused d (m ∷ ms) (world_book b) text
    by_reply r t reply_is here = judged (taken h d m is free apart.0 (omega (arith, room))) where
      longer : StatesOrRefused (applied d (change d m)) ms (world_book b) replies → StatesOrRefused d (m ∷ ms) (world_book b) text
      longer (inl states) = inl (states ∙ sym (fold-append stepped d.states (steps_here d m) (flat_map (steps_here d) ms)))
      longer (inr was) = inr (refused-later reply replies text text_is was)

      hindered : IsHindered r → StatesOrRefused d (m ∷ ms) (world_book b) text
      hindered (why, want, reported_is) = inr (refused-first reply replies text why want text_is (reply_is ∙ ap reply_text reported_is))

      answered : (to : IsTaken h d m) → Acknowledges r (group_in h c) ⊎ IsHindered r → StatesOrRefused d (m ∷ ms) (world_book b) text
      answered to (inl keeps) =
          let next : IsThen h d m (then h m r t) = now h d m r t is free to keeps in
          longer (on r t next apart.1 (omega (arith, room, next.long)) here.1)
      answered to (inr none) = hindered none

      judged : IsTaken h d m ⊎ (due h c ≡ Refused Full) → StatesOrRefused d (m ∷ ms) (world_book b) text
      judged (inl to) = answered to (kept-or-refused h c t.failed to.number to.outcome r (group_in h c) (subst (λ (x : Reply). (r ≡ x) ⊎ StandsIn h c t.failed x r) to.reply here.0.reply))
      judged (inr full) = hindered (refused-all h c t.failed r (subst (λ (x : Reply). (r ≡ x) ⊎ StandsIn h c t.failed x r) full here.0.reply))

    of : IsReplyTo (CallsOrShows faults) (message_text m) a mid reply → StatesOrRefused d (m ∷ ms) (world_book b) text
    of (inl (meant, means, says)) =
        let same = one_meaning (line_at (message_text m)) meant (Ok (Some (Run c))) means reported.means in
        let ran : CallsBook faults c a mid reply = subst (λ (x : Result (Option Request) Refusal). Says (CallsOrShows faults) x a mid reply) same says in
        by_reply ran.reply ran.upshot ran.reported (stands-on start h c ran.reply ran.upshot (world_book a) (world_book mid) stands ran.worlds)
    of (inr none) = inr (refused-first reply replies text Memory tt text_is none.reported)

  given : (ms : List Message) (h : CurrentOpening) (d : PlainDurable) (a b : PlainBook D) (text : List ℕ) → durable_of h ≡ d → h.pending ≡ [] → Each (λ m. TellsOf m (message_text m)) ms
      → passes_limit d.states (flat_map (steps_here d) ms) ≡ false → length (log_of h) + length ms ≤ h.setting.limit → Stands start h (world_book a) → Serves faults a b (map message_text ms) text → StatesOrRefused d ms (world_book b) text
  given [] h d a b text is free reported fits room stands (same, none) =
      inl (ap (λ (book : PlainBook D). (held_in (world_book book)).states) same ∙ ap (λ (k : PlainDurable). k.states) (held-at h (world_book a) (is-at start h (world_book a) stands) ∙ is))
  given (m ∷ ms) h d a b text is free reported fits room stands (mid, reply, replies, by, more, text_is) =
      one-line m ms h d a mid b reply replies text is free reported.0 fits room stands by text_is
      (λ r t next next_fits next_room there. given ms (then h m r t) (applied d (change d m)) mid b replies next.held next.none reported.1 next_fits next_room there more)

-- what it comes to where it is ready for the lines
arrived : {D : Type 0} (faults : D → ℕ) (ours : List ℕ) (es : List PlainState) (first : PlainDurable) (world : List Event) (old new : PlainBook D) (text : List ℕ) → StandsFor first (world_book old) world → IsReadyFor (length (exported_lines ours es)) (world_book old) →
    Serves faults old new (exported_lines ours es) text → CanBeExported ours es → StatesOrRefused (held_in (world_book old)) (exported_messages ours es) (world_book new) text
arrived faults ours es first world old new text stands ready served can =
    let ms = exported_messages ours es in
    let b : WorldBook = world_book old in
    let at = stands.at in
    let left = states_taken ours (main_sum (held_in b)) (main_count (held_in b)) es can.table ready.rules in
    let fits : passes_limit (held_in b).states (flat_map (steps_here (held_in b)) ms) ≡ false =
    ap (λ (ss : List PlainState). passes_limit ss (flat_map (steps_here (held_in b)) ms)) ready.no_states ∙ left.fits in
    let none : stands.held.pending ≡ [] = sym at.pending ∙ ready.none_pending in
    let log : length (log_of stands.held) ≡ length (flat b.acked) = ap (λ (l : List (List PlainChange)). length (flat (stands.held.acked ++ l))) none ∙ ap (λ (l : List (List PlainChange)). length (flat l)) (append-nil stands.held.acked ∙ sym at.acked) in
    let limit : b.setting.limit ≡ stands.held.setting.limit = ap (λ (s : Setting). s.limit) at.setting in
    given faults first ms stands.held (held_in b) old new text (sym (held-at stands.held b at)) none (exports_are_read ours es can.sum can.bytes can.numbers) fits
    (omega (arith, log, ready.room, limit, length-map ms message_text)) (record { world = world; stands = stands; comes = stands.comes }) served

pub takes_over : {D : Type 0} (faults : D → ℕ) → TakesOver faults
takes_over faults ours es first world old new text can stands ready served = of (arrived faults ours es first world old new text stands ready served can) where
  ms : List Message
  ms = exported_messages ours es

  b : WorldBook
  b = world_book old

  of : StatesOrRefused (held_in b) ms (world_book new) text → ((held_in (world_book new)).states ≡ states_there (held_in b) ours es) ⊎ WasRefused text
  of (inl states) =
      let left = states_taken ours (main_sum (held_in b)) (main_count (held_in b)) es can.table ready.rules in
      inl (states ∙ ap (λ (ss : List PlainState). stepped_on ss (flat_map (steps_here (held_in b)) ms)) ready.no_states ∙ left.left)
  of (inr was) = inr was

begun-held : (setting : Setting) (old : WorldBook) (stands : StandsFor (kept_nothing 0) old (opened setting ∷ [])) → stands.held ≡ begun setting (raised (kept_nothing 0))
begun-held setting old stands = up-is stands.held (begun setting (raised (kept_nothing 0))) (sym stands.comes)

pub fresh_takes_over : {D : Type 0} (faults : D → ℕ) → FreshTakesOver faults
fresh_takes_over faults ours es setting old new text can stands room served =
    let b : WorldBook = world_book old in
    let is = begun-held setting b stands in
    let at : IsAt (begun setting (raised (kept_nothing 0))) b = subst (λ (h : CurrentOpening). IsAt h b) is stands.at in
    let held : held_in b ≡ kept_nothing 1 = held-at (begun setting (raised (kept_nothing 0))) b at in
    let none : length (flat b.acked) ≡ 0 = ap (λ (l : List (List PlainChange)). length (flat l)) at.acked in
    let limit_is : b.setting.limit ≡ setting.limit = ap (λ (s : Setting). s.limit) at.setting in
    let ready : IsReadyFor (length (exported_lines ours es)) b = record {
      no_states = ap (λ (k : PlainDurable). k.states) held;
      none_pending = at.pending;
      room = omega (arith, none, room, limit_is);
      rules = omega (arith, ap main_count held);
    } in
    subst (λ (k : PlainDurable). ((held_in (world_book new)).states ≡ states_there k ours es) ⊎ WasRefused text) held (takes_over faults ours es (kept_nothing 0) (opened setting ∷ []) old new text can stands ready served)
