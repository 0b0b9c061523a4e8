-- What is shown, and what workers see and learn of it.
use Rattle.std.proofs.{Common.{◌≡◌, ℕ, ◌+◌, ◌≤◌, ◌&&◌, Bool, false, ◌⊎◌, inl, inr, List, [], ◌∷◌, ◌++◌, length, take, refl, sym, ap, ◌∙◌, subst, append-nil, le_refl, le_trans, Result, Ok, Err, arith}, lemmas.List.length-append}
use Rattle.std.specs.Prelude.{fold, ⊤}
use Rattle.pf_core.specs.{declared.{command.Command.Command, command.HistoryCommand.HistoryCommand, command.HistoryCommand.TheVariants.Log, command.HistoryCommand.TheVariants.Publish, command.Question.Question, command.Question.TheVariants.Judge, command.Question.TheVariants.Test, command.Question.TheVariants.ShowRules, command.Question.TheVariants.ShowTables, command.Question.TheVariants.ShowStates, command.Question.TheVariants.Sum, command.Question.TheVariants.Export, reply.Answer.Answer, reply.Refusal.Refusal, reply.Reply.Reply, reply.Reply.TheVariants.Answer as Answered, reply.Reply.TheVariants.Applied, reply.Reply.TheVariants.Stored, reply.Reply.TheVariants.Refused, step.Step.TheVariants.Done}, Calls.{Call, replies_in}, Commands.{answer_of, step_by, may_change}, Durable.Changes.{PlainDurable, PlainChange}, History.{acked_of, earlier, acknowledged, history}, Laws.{Openings.{IsFrontOf, seen, IsSeenBy, KeepsSeen, KeepsLearnt}, Worlds.{hides, hidden_by, hidden_since, ShowsAll}}, Worlds.{CurrentOpening, State, up, down, log_of, durable_of, flat, is_halted, step_in, history_answer, group_in, Upshot, Event, called, called_group, entered, learned, crashed, opened, refused_opening, acked_by, shown_by_answer, shown_by, heard, heard_group, changes_due, group_all, next, LegalReply, LegalCall, LegalGroup, IsLegal, state_after, IsLegalFrom}}
use Rattle.pf_ticket.specs.Tickets.{PlainTickets}
use Rattle.pf_core.proofs.{Prefixes.{flat-append, front-trans, front-onto, front-take, front-flat}, Groups.{IsKept, either, acknowledged-front}, Courses.{AreShown, length-with, IsAccepted, accepted, accepted-course}, Stepping.{IsOfSteps, step-answers, unhalted}, Limits.{IsOfHistory, answered-step, IsApplied, applied-step, AreFewUnacknowledged, few-unacknowledged}, LongerWorlds.{flat-push, AreLegal, in-two}}

-- ---- by the reply

-- what is shown of what was acknowledged: all of it, if nothing is hidden
abbrev IsShown : List (List PlainChange) → ℕ → Bool → Type 0
IsShown acked shown hidden = AreShown (length (flat acked)) shown hidden

-- an answer that shows nothing
record ShowsNothing (a : Answer) : Type 0 where
  shown : (n : ℕ) → shown_by_answer a n ≡ n
  hidden : (hidden : Bool) → hides hidden (Answered a) ≡ hidden

question-shows : (d : PlainDurable) (q : Question) → ShowsNothing (answer_of d q)
question-shows d (Judge packet) = record { shown = λ n. refl; hidden = λ b. refl }
question-shows d (Test p name a) = record { shown = λ n. refl; hidden = λ b. refl }
question-shows d (ShowRules p) = record { shown = λ n. refl; hidden = λ b. refl }
question-shows d (ShowTables p) = record { shown = λ n. refl; hidden = λ b. refl }
question-shows d ShowStates = record { shown = λ n. refl; hidden = λ b. refl }
question-shows d Sum = record { shown = λ n. refl; hidden = λ b. refl }
question-shows d Export = record { shown = λ n. refl; hidden = λ b. refl }

-- no step shows anything by itself
steps-show-nothing : IsOfSteps ShowsNothing
steps-show-nothing = record {
  given = λ range. record { shown = λ n. refl; hidden = λ b. refl };
  done = record { shown = λ n. refl; hidden = λ b. refl };
  judged = λ v. record { shown = λ n. refl; hidden = λ b. refl };
  stale = λ v. record { shown = λ n. refl; hidden = λ b. refl };
  asked = question-shows;
}

pub shows-nothing : (t : PlainTickets) (d : PlainDurable) (c : Command) (a : Answer) → step_by t d c ≡ Ok (Done a) → (n : ℕ) → shown_by_answer a n ≡ n
shows-nothing t d c a is n = (step-answers ShowsNothing steps-show-nothing t d c a is).shown n

still-shown : (acked : List (List PlainChange)) (n : ℕ) (hidden : Bool) → IsShown acked n hidden → IsShown (acked ++ []) n hidden
still-shown acked n hidden old = subst (λ (gs : List (List PlainChange)). IsShown gs n hidden) (sym (append-nil acked)) old

nothing-shown : (h : CurrentOpening) (hidden : Bool) (a : Answer) → ShowsNothing a → IsShown h.acked h.shown hidden → IsShown (h.acked ++ []) (shown_by_answer a h.shown) (hides hidden (Answered a))
nothing-shown h hidden a none old =
    subst (λ (n : ℕ). IsShown (h.acked ++ []) n (hides hidden (Answered a))) (sym (none.shown h.shown))
    (subst (λ (b : Bool). IsShown (h.acked ++ []) h.shown b) (sym (none.hidden hidden)) (still-shown h.acked h.shown hidden old))

-- a publish shows all
history-shown : (h : CurrentOpening) (hidden : Bool) (x : HistoryCommand) → IsShown h.acked h.shown hidden → IsShown (h.acked ++ []) (shown_by_answer (history_answer h x) h.shown) (hides hidden (Answered (history_answer h x)))
history-shown h hidden Log old = still-shown h.acked h.shown hidden old
history-shown h hidden Publish old = still-shown h.acked (length (flat h.acked)) false (record { within = le_refl _; all = λ none. refl })

-- a change that is acknowledged is the last one
applied-last : (h : CurrentOpening) (c : Command) (n : ℕ) → IsApplied h (step_in h c) n → n ≡ length (flat (h.acked ++ group_in h c))
applied-last h c n was = by (either h c) where
  k : IsKept h (step_in h c)
  k = was.kept

  by : (h.pending ≡ []) ⊎ (group_in h c ≡ []) → n ≡ length (flat (h.acked ++ group_in h c))
  by (inr none) = absurd (cc (none, k.group))
  by (inl none) =
      let log : length (log_of h) ≡ length (flat h.acked) = ap (λ (gs : List (List PlainChange)). length (flat (h.acked ++ gs))) none ∙ ap (λ (gs : List (List PlainChange)). length (flat gs)) (append-nil h.acked) in
      let long : length (flat (h.acked ++ (k.change ∷ []) ∷ [])) ≡ length (flat h.acked) + 1 = ap length (flat-push h.acked k.change) ∙ length-append (flat h.acked) (k.change ∷ []) in
      let number : n ≡ length (log_of h) + 1 = was.number in
      subst (λ (g : List (List PlainChange)). n ≡ length (flat (h.acked ++ g))) (sym k.group) (omega (arith, log, long, number))

more-acked : (acked more : List (List PlainChange)) → length (flat acked) ≤ length (flat (acked ++ more))
more-acked acked more =
    let long : length (flat (acked ++ more)) ≡ length (flat acked) + length (flat more) = ap length (flat-append acked more) ∙ length-append (flat acked) (flat more) in
    omega (arith, long)

shown-on : (h : CurrentOpening) (c : Command) (r : Reply) (failed hidden : Bool) → LegalReply h c r failed → IsShown h.acked h.shown hidden → IsShown (h.acked ++ acked_by r (group_in h c)) (shown_by r h.shown) (hides hidden r)
shown-on h c (Answered a) failed hidden (inl is) old = by (answered-step h (step_in h c) a is) where
  by : (step_in h c ≡ Ok (Done a)) ⊎ IsOfHistory h (step_in h c) a → IsShown (h.acked ++ []) (shown_by_answer a h.shown) (hides hidden (Answered a))
  by (inl done) = nothing-shown h hidden a
      (step-answers ShowsNothing steps-show-nothing h.tickets (durable_of h) c a (unhalted (may_change c && is_halted h.pending) (step_by h.tickets (durable_of h) c) (Done a) done)) old
  by (inr k) = subst (λ (x : Answer). IsShown (h.acked ++ []) (shown_by_answer x h.shown) (hides hidden (Answered x))) (sym k.answer) (history-shown h hidden k.command old)
shown-on h c (Answered a) failed hidden (inr none) old = absurd none
shown-on h c (Applied n o) failed hidden (inl is) old =
    let last : n ≡ length (flat (h.acked ++ group_in h c)) = applied-last h c n (applied-step h (step_in h c) n o is) in
    record { within = omega (arith, last); all = λ none. last }
shown-on h c (Applied n o) failed hidden (inr none) old = absurd none
shown-on h c (Stored n o) failed hidden legal old = record { within = le_trans old.within (more-acked h.acked (group_in h c)); all = λ none. absurd (cc (none)) }
shown-on h c (Refused e) failed hidden legal old = still-shown h.acked h.shown hidden old

-- ---- a whole world

abbrev IsShownIn : State → Bool → Type 0
IsShownIn (up h) hidden = IsShown h.acked h.shown hidden
IsShownIn (down d) hidden = ⊤

shown-call : (h : CurrentOpening) (c : Call) (t : Upshot) (hidden : Bool) → LegalCall h c t → IsShown h.acked h.shown hidden → IsShownIn (up (heard h c t)) (hides hidden c.reply)
shown-call h c t hidden legal old =
    subst (λ (n : ℕ). IsShown (h.acked ++ acked_by c.reply (group_in h c.command)) n (hides hidden c.reply)) (sym legal.shown) (shown-on h c.command c.reply t.failed hidden legal.reply old)

shown-group : (h : CurrentOpening) (cs : List Command) (result : Result (List Reply) Refusal) (t : Upshot) (hidden : Bool) → LegalGroup h cs result t → IsShown h.acked h.shown hidden → IsShownIn (up (heard_group h cs result t)) (fold hides hidden (replies_in result))
shown-group h cs (Ok rs) t hidden legal old =
    let kept : IsAccepted h cs rs = accepted h cs rs t.failed legal.reply in
    let none : length (flat h.acked) ≡ length (flat h.acked) + 0 = omega arith in
    let total : length (flat h.acked) + length (changes_due h [] cs) ≡ length (flat (h.acked ++ group_all h cs)) =
    sym (ap (λ (gs : List (List PlainChange)). length (flat (h.acked ++ gs))) kept.taken.group ∙ length-with h.acked (changes_due h [] cs)) in
    subst (λ (n : ℕ). IsShown (h.acked ++ group_all h cs) n (fold hides hidden rs)) (sym legal.shown)
    (subst (λ (n : ℕ). AreShown n (fold (λ (m : ℕ) (r : Reply). shown_by r m) h.shown rs) (fold hides hidden rs)) total
    ((accepted-course h cs rs kept).shown h.shown hidden (subst (λ (n : ℕ). AreShown n h.shown hidden) none old)))
shown-group h cs (Err e) t hidden legal old = subst (λ (n : ℕ). IsShown (h.acked ++ []) n hidden) (sym legal.shown) (still-shown h.acked h.shown hidden old)

shown-next : (st : State) (hidden : Bool) (e : Event) → IsLegal st e → IsShownIn st hidden → IsShownIn (next st e) (hidden_by hidden e)
shown-next (up h) hidden (called c t) legal old = shown-call h c t hidden legal old
shown-next (up h) hidden (called_group cs result t) legal old = shown-group h cs result t hidden legal old
shown-next (up h) hidden (entered w n) legal old = old
shown-next (up h) hidden (learned w n) legal old = old
shown-next (up h) hidden (crashed doing n) legal old = tt
shown-next (down d) hidden (opened setting) legal old = record { within = le_refl _; all = λ none. refl }
shown-next (down d) hidden (refused_opening rose) legal old = tt
shown-next st hidden e legal old = absurd legal

shown-from : (st : State) (hidden : Bool) (world : List Event) → IsLegalFrom st world → IsShownIn st hidden → IsShownIn (state_after st world) (fold hidden_by hidden world)
shown-from st hidden [] legal old = old
shown-from st hidden (e ∷ es) legal old = shown-from (next st e) (hidden_by hidden e) es legal.1 (shown-next st hidden e legal.0 old)

pub shows_all : ShowsAll
shows_all first world h legal comes =
    let shown : IsShown h.acked h.shown (hidden_since world) = subst (λ (st : State). IsShownIn st (hidden_since world)) comes (shown-from (down first) false world legal tt) in
    let few : AreFewUnacknowledged world h = few-unacknowledged first world h legal comes in
    record { within = shown.within; all = shown.all; one = few.one; none = few.none }

-- ---- what a worker saw or learnt

entered-within : (st : State) (worker n : ℕ) (hidden : Bool) → IsLegal st (entered worker n) → IsShownIn st hidden → n ≤ length (flat (acked_of st))
entered-within (up h) worker n hidden legal shown = le_trans legal.1 shown.within
entered-within (down d) worker n hidden legal shown = absurd legal

learned-within : (st : State) (worker n : ℕ) (hidden : Bool) → IsLegal st (learned worker n) → IsShownIn st hidden → n ≤ length (flat (acked_of st))
learned-within (up h) worker n hidden legal shown = le_trans legal shown.within
learned-within (down d) worker n hidden legal shown = absurd legal

-- what was acknowledged before an event is kept after it, whatever the event and what comes later
stays-later : (event : Event) (first : PlainDurable) (world later : List Event) (n : ℕ) → n ≤ length (flat (acked_of (state_after (down first) world))) → IsSeenBy event first world later n
stays-later event first world later n within =
    let st : State = down first in
    let more : List Event = event ∷ later in
    let here : List PlainChange = flat (acked_of (state_after st world)) in
    let before : List PlainChange = flat (earlier st world) in
    record {
      acknowledged = within;
      stays = front-trans (seen first world n) (flat (acknowledged st world)) (flat (history st (world ++ more)))
          (subst (λ (l : List PlainChange). IsFrontOf (seen first world n) l) (sym (flat-append (earlier st world) (acked_of (state_after st world)))) (front-onto before (take n here) here (front-take n here)))
          (front-flat (acknowledged st world) (history st (world ++ more)) (acknowledged-front st world more));
    }

pub keeps_seen : KeepsSeen
keeps_seen first world later worker n legal =
    let st : State = down first in
    let parts : AreLegal st world (entered worker n) later = in-two st world (entered worker n) later legal in
    stays-later (entered worker n) first world later n
    (entered-within (state_after st world) worker n (hidden_since world) parts.here (shown-from st false world parts.before tt))

pub keeps_learnt : KeepsLearnt
keeps_learnt first world later worker n legal =
    let st : State = down first in
    let parts : AreLegal st world (learned worker n) later = in-two st world (learned worker n) later legal in
    stays-later (learned worker n) first world later n
    (learned-within (state_after st world) worker n (hidden_since world) parts.here (shown-from st false world parts.before tt))
