-- One call of a Book, for each way that it can end.
use Rattle.std.proofs.{Common.{◌≡◌, inl, inr, ℕ, ◌+◌, ◌≤◌, min, Bool, true, false, cond, List, [], ◌∷◌, ◌++◌, length, take, None, Result, Ok, Err, refl, sym, ap, ◌∙◌, subst, append-nil, arith}, Math.Bool.and-false, lemmas.Bool.Decides.nat_tests, lemmas.List.{take_all, take_min, take-append-le}}
use Rattle.std.specs.Prelude.{nat_lt, ◌&&◌}
use Rattle.pf_rule.specs.Packets.{PlainPacket}
use Rattle.pf_ticket.specs.{Tickets.PlainTickets, Mentions.after as moved_by}
use Rattle.pf_core.specs.declared.reply.Answer.TheVariants as answer
use Rattle.pf_core.specs.declared.{command.Command.Command, command.Command.TheVariants.{Transact, Edit, States as OfStates, Ask, History}, command.HistoryCommand.HistoryCommand, command.HistoryCommand.TheVariants.{Log, Publish}, command.Question.TheVariants.Judge, durable.verdict.Verdict.Verdict, reply.Answer.Answer, reply.Outcome.Outcome, reply.Refusal.Refusal, reply.Refusal.TheVariants.{Halted, Memory}, reply.Reply.Reply, reply.Reply.TheVariants.{Answer as Answered, Refused}, step.Step.Step, step.Step.TheVariants.{Done, Wants}}
use Rattle.pf_core.specs.{Calls.{Call, call, mentions_of}, Commands.{step_by, may_change, takes_memory}, Durable.Changes.{PlainDurable, PlainChange, after, verdict}, Refusals.OrMemory, WorldBooks.{WorldBook, IsFolded, IsAt, Leads}, Cores.PlainCore, Worlds.{CurrentOpening, down, Doing, calling, upshot, flat, log_of, durable_of, is_halted, is_fault, step_in, due_at, due, group_of, LegalReply}}
use Rattle.pf_core.proofs.{LongerWorlds.{nothing-leads, refused-leads}, Showing.shows-nothing}
use Rattle.pf_store.specs.Stores.{Holds}
use Rattle.pf_disk.specs.declared.disk.Disk.{Ghosts}
use Rattle.pf_book.proofs.{HistoryGroups.halted-is, Openable.uses-reported, Steps.never-fault}
use Rattle.pf_book.specs.{Books.{BookParts, PlainBook, IsJudged, KeepsOpening, world_book, world_book_of, judging, log_in, HoldsFront, HoldsLeft, IsLeft, AnswersHistory, shows_all, UsesDevice}, Receipts.IsCall}

-- a world book with another core
abbrev pub with_core : WorldBook → PlainCore → WorldBook
with_core b w = record b { whole = w }

-- `r` is the step that the core takes for a command, or `Memory`
abbrev pub Steps : WorldBook → Command → Result Step Refusal → Type 0
Steps b c r = OrMemory (takes_memory b.whole.durable c) r (step_by b.whole.tickets b.whole.durable c)

-- no group is pending, or the command changes nothing
abbrev pub IsFree : WorldBook → Command → Type 0
IsFree b c = (may_change c && is_halted b.pending) ≡ false

-- a command that can't change anything is free
pub unchanging : (b : WorldBook) (c : Command) → may_change c ≡ false → IsFree b c
unchanging b c is = ap (λ (m : Bool). m && is_halted b.pending) is

-- it is free too if no change comes after those that were acknowledged
pub none-pending : {D : Type 0} (p : BookParts D) (c : Command) → p.acked ≤ length p.log → length p.log ≤ p.acked → IsFree (world_book_of p) c
none-pending p c low high =
    let all : nat_lt p.acked (length p.log) ≡ false = grind (arith, nat_tests, high) in
    ap (λ (x : Bool). may_change c && x) (halted-is p.log p.acked low ∙ all) ∙ and-false (may_change c)

-- what the core keeps is the world's
pub durable-is : (h : CurrentOpening) (b : WorldBook) → IsAt h b → IsFolded b → b.whole.durable ≡ durable_of h
durable-is h b at folded = folded.durable ∙ ap (λ (k : PlainDurable). after k (flat b.acked)) at.base ∙ ap (λ (l : List (List PlainChange)). after h.base (flat l)) at.acked

free-too : (h : CurrentOpening) (b : WorldBook) (c : Command) → IsAt h b → IsFree b c → (may_change c && is_halted h.pending) ≡ false
free-too h b c at free = ap (λ (gs : List (List PlainChange)). may_change c && is_halted gs) (sym at.pending) ∙ free

-- the step that is taken is the one by the world's tickets and by what the world keeps
own-step : (h : CurrentOpening) (b : WorldBook) (c : Command) (r : Result Step Refusal) → IsAt h b → IsFolded b → Steps b c r → (r ≡ Err Memory → ⊥) → r ≡ step_by h.tickets (durable_of h) c
own-step h b c r at folded steps other =
    steps.0 other ∙ ap (λ (t : PlainTickets). step_by t b.whole.durable c) at.tickets ∙ ap (λ (k : PlainDurable). step_by h.tickets k c) (durable-is h b at folded)

-- so it is the world's step
step-is : (h : CurrentOpening) (b : WorldBook) (c : Command) (r : Result Step Refusal) → IsAt h b → IsFolded b → IsFree b c → Steps b c r → (r ≡ Err Memory → ⊥) → r ≡ step_in h c
step-is h b c r at folded free steps other = own-step h b c r at folded steps other ∙ ap (λ (x : Bool). cond x (Err Halted) (step_by h.tickets (durable_of h) c)) (sym (free-too h b c at free))

-- a command that wants a change may change something
wants-may : (t : PlainTickets) (d : PlainDurable) (c : Command) (e : PlainChange) (o : Outcome) → step_by t d c ≡ Ok (Wants e o) → may_change c ≡ true
wants-may t d (Transact x) e o is = refl
wants-may t d (Edit x) e o is = refl
wants-may t d (OfStates x) e o is = refl
wants-may t d (Ask q) e o is = absurd (cc (is))
wants-may t d (History x) e o is = absurd (cc (is))

free-none : (b : Bool) (gs : List (List PlainChange)) → b ≡ true → (b && is_halted gs) ≡ false → gs ≡ []
free-none true [] may free = refl
free-none true (g ∷ gs) may free = absurd (cc (free))
free-none false gs may free = absurd (cc (may))

-- so if it is free nothing is pending
pub wants-free : (b : WorldBook) (c : Command) (e : PlainChange) (o : Outcome) → IsFree b c → Steps b c (Ok (Wants e o)) → b.pending ≡ []
wants-free b c e o free steps = free-none (may_change c) b.pending (wants-may b.whole.tickets b.whole.durable c e o (sym (steps.0 (λ m. cc (m))))) free

-- the device didn't fail
pub no-fault : (h : CurrentOpening) (new : WorldBook) (c : Call) (shown : ℕ) (failed : Bool) → failed ≡ false → Leads h new c (upshot shown false) → Leads h new c (upshot shown failed)
no-fault h new c shown failed is leads = subst (λ (x : Bool). Leads h new c (upshot shown x)) (sym is) leads

pub not-more : (n m : ℕ) → m ≡ n + 0 → nat_lt n m ≡ false
not-more n m is = grind (arith, nat_tests, is)

-- ---- nothing is kept

-- once a group is pending, a command that may change something is refused as `Halted`
halted-by : (may : Bool) (gs : List (List PlainChange)) (rest : Result Step Refusal) → may ≡ true → (gs ≡ [] → ⊥) → cond (may && is_halted gs) (Err Halted) rest ≡ Err Halted
halted-by true [] rest is some = absurd (some refl)
halted-by true (g ∷ gs) rest is some = refl
halted-by false gs rest is some = absurd (cc (is))

pub halted-leads : (h : CurrentOpening) (b : WorldBook) (c : Command) → may_change c ≡ true → (b.pending ≡ [] → ⊥) → IsAt h b → Leads h b (call c (Refused Halted)) (upshot b.shown false)
halted-leads h b c may some at =
    let is : step_in h c ≡ Err Halted = halted-by (may_change c) h.pending (step_by h.tickets (durable_of h) c) may (λ none. some (at.pending ∙ none)) in
    refused-leads h b b c Halted (inl (sym (ap (due_at h) is))) refl at

answered-legal : (h : CurrentOpening) (b : WorldBook) (c : Command) (a : Answer) → IsAt h b → IsFolded b → IsFree b c → Steps b c (Ok (Done a)) → LegalReply h c (Answered a) false
answered-legal h b c a at folded free steps = inl (ap (due_at h) (step-is h b c (Ok (Done a)) at folded free steps (λ m. cc (m))))

-- the core answers, and nothing more is shown
pub answer-leads : (h : CurrentOpening) (b : WorldBook) (w : PlainCore) (c : Command) (a : Answer) → IsAt h b → IsFolded b → IsFree b c → Steps b c (Ok (Done a)) → w.tickets ≡ moved_by b.whole.tickets (mentions_of (call c (Answered a))) →
    Leads h (with_core b w) (call c (Answered a)) (upshot b.shown false)
answer-leads h b w c a at folded free steps moved =
    let done : step_by h.tickets (durable_of h) c ≡ Ok (Done a) = sym (own-step h b c (Ok (Done a)) at folded steps (λ m. cc (m))) in
    nothing-leads h b w c (Answered a) (answered-legal h b c a at folded free steps) refl refl (shows-nothing h.tickets (durable_of h) c a done h.shown) moved at

-- the core's own refusal
refusal-is-legal : (h : CurrentOpening) (b : WorldBook) (c : Command) (e : Refusal) → IsAt h b → IsFolded b → IsFree b c → Steps b c (Err e) → LegalReply h c (Refused e) false
refusal-is-legal h b c Memory at folded free steps = inr (subst (λ (k : PlainDurable). takes_memory k c ≡ true) (durable-is h b at folded) (steps.1 refl))
refusal-is-legal h b c e at folded free steps = inl (ap (due_at h) (step-is h b c (Err e) at folded free steps (λ m. cc (m))))

pub refusal-leads : (h : CurrentOpening) (b new : WorldBook) (c : Command) (e : Refusal) → IsAt h b → IsFolded b → IsFree b c → Steps b c (Err e) → new ≡ b → Leads h new (call c (Refused e)) (upshot new.shown false)
refusal-leads h b new c e at folded free steps same = refused-leads h b new c e (refusal-is-legal h b c e at folded free steps) same at

-- a judge leaves all as it is
pub judged-leads : (h : CurrentOpening) (b : WorldBook) (packet : PlainPacket) (v : Verdict) → IsFolded b → v ≡ verdict b.whole.durable packet → IsAt h b → Leads h b (judging packet v) (upshot b.shown false)
judged-leads h b packet v folded is at =
    let c : Command = Ask (Judge packet) in
    let a : Answer = answer.Judged v in
    let done : Ok (Done a) ≡ step_by b.whole.tickets b.whole.durable c = ap (λ (x : Verdict). Ok (Done (answer.Judged x))) is in
    nothing-leads h b b.whole c (Answered a) (answered-legal h b c a at folded refl ((λ other. done), (λ m. absurd (cc (m))))) refl refl refl refl at

-- ---- what is asked of the history

-- the log is what was acknowledged and what is pending
log-is : (h : CurrentOpening) (b : WorldBook) → IsAt h b → log_of h ≡ log_in b
log-is h b at = ap (λ (l : List (List PlainChange)). flat (l ++ h.pending)) (sym at.acked) ∙ ap (λ (l : List (List PlainChange)). flat (b.acked ++ l)) (sym at.pending)

acked-is : (h : CurrentOpening) (b : WorldBook) → IsAt h b → length (flat h.acked) ≡ length (flat b.acked)
acked-is h b at = ap (λ (l : List (List PlainChange)). length (flat l)) (sym at.acked)

reported-leads : (h : CurrentOpening) (b new : WorldBook) (x : HistoryCommand) (r : Reply) → IsAt h b → AnswersHistory x r b new → Leads h new (call (History x) r) (upshot new.shown false)
reported-leads h b new Log r at (same, is) =
    let a : Answer = answer.Logged (length (log_in b)) (length (flat b.acked)) b.shown in
    let due-is : Answered a ≡ due h (History Log) =
    ap (λ (n : ℕ). Answered (answer.Logged n (length (flat b.acked)) b.shown)) (ap length (sym (log-is h b at)))
    ∙ ap (λ (n : ℕ). Answered (answer.Logged (length (log_of h)) n b.shown)) (sym (acked-is h b at))
    ∙ ap (λ (n : ℕ). Answered (answer.Logged (length (log_of h)) (length (flat h.acked)) n)) at.shown in
    subst (λ (p : WorldBook). Leads h p (call (History Log) r) (upshot p.shown false)) (sym same)
    (subst (λ (y : Reply). Leads h b (call (History Log) y) (upshot b.shown false)) (sym is) (nothing-leads h b b.whole (History Log) (Answered a) (inl due-is) refl refl refl refl at))
reported-leads h b new Publish r at (inl (is, all)) =
    let n : ℕ = length (flat b.acked) in
    let a : Answer = answer.Shown n in
    let due-is : Answered a ≡ due h (History Publish) = ap (λ (m : ℕ). Answered (answer.Shown m)) (sym (acked-is h b at)) in
    subst (λ (p : WorldBook). Leads h p (call (History Publish) r) (upshot p.shown false)) (sym all)
    (subst (λ (y : Reply). Leads h (shows_all b) (call (History Publish) y) (upshot n false)) (sym is)
    (record {
      legal = record { reply = inl due-is; shown = refl };
      at = record {
        base = at.base;
        tickets = at.tickets;
        acked = at.acked ∙ sym (append-nil h.acked);
        pending = at.pending ∙ sym (append-nil h.pending);
        shown = refl;
        setting = at.setting;
      };
    }))
reported-leads h b new Publish r at (inr (is, same)) =
    subst (λ (y : Reply). Leads h new (call (History Publish) y) (upshot new.shown false)) (sym is) (refused-leads h b new (History Publish) Memory (inr refl) same at)

-- the log is what was acknowledged, if nothing is pending
pub log-acked : (h : CurrentOpening) (b : WorldBook) → IsAt h b → b.pending ≡ [] → length (log_of h) ≡ length (flat b.acked)
log-acked h b at none = ap length (log-is h b at) ∙ ap (λ (l : List (List PlainChange)). length (flat (b.acked ++ l))) none ∙ ap (λ (l : List (List PlainChange)). length (flat l)) (append-nil b.acked)

-- ---- crashes

-- an image that holds a front of the history holds what some crash leaves
pub front-left : (h : CurrentOpening) (b : WorldBook) (doing : Doing) (c : List ℕ) → IsAt h b → HoldsFront b c → HoldsLeft h doing c
front-left h b doing c at (n, holds) =
    let m : ℕ = min n (length b.pending) in
    let more : List (List PlainChange) = group_of h doing in
    let fronts : take m (h.pending ++ more) ≡ take n b.pending =
    ap (λ (l : List (List PlainChange)). take m (l ++ more)) (sym at.pending) ∙ take-append-le m b.pending more (omega arith) ∙ take_min n b.pending in (
      after b.base (flat (b.acked ++ take n b.pending)),
      holds,
      (
        m,
        ap (λ (k : PlainDurable). down k) (ap (λ (l : List (List PlainChange)). after h.base (flat (h.acked ++ l))) fronts ∙ ap (λ (k : PlainDurable). after k (flat (h.acked ++ take n b.pending))) (sym at.base)
            ∙ ap (λ (l : List (List PlainChange)). after b.base (flat (l ++ take n b.pending))) (sym at.acked)),
      ),
    )

-- ---- over a device

-- the opening that a world book is
abbrev pub own : WorldBook → CurrentOpening
own b = record { setting = b.setting; base = b.base; tickets = b.whole.tickets; acked = b.acked; pending = b.pending; shown = b.shown; sights = [] }

pub own-at : (b : WorldBook) → IsAt (own b) b
own-at b = record { base = refl; tickets = refl; acked = refl; pending = refl; shown = refl; setting = refl }

-- the count of faults says whether the device failed
pub fault-flag : (n m : ℕ) (failed : Bool) → m ≡ n + cond failed 1 0 → nat_lt n m ≡ failed
fault-flag n m true is = grind (arith, nat_tests, is)
fault-flag n m false is = grind (arith, nat_tests, is)

-- the core never refuses for a fault
pub err-not-fault : (b : WorldBook) (c : Command) (e : Refusal) → Steps b c (Err e) → is_fault e ≡ false
err-not-fault b c Memory steps = refl
err-not-fault b c e steps = never-fault b.whole.tickets b.whole.durable c e (sym (steps.0 (λ m. cc (m))))

-- a packet that is asked about is judged
pub judged-by : (d : PlainDurable) (c : Command) (r : Reply) → ((packet : PlainPacket) → c ≡ Ask (Judge packet) → r ≡ Answered (answer.Judged (verdict d packet))) → IsJudged d c r
judged-by d (Ask (Judge packet)) r is = is packet refl
judged-by d c r is = tt

-- it is still the same opening
pub by-world : {D : Type 0} (old new : PlainBook D) (b : WorldBook) → world_book new ≡ b → b.base ≡ old.base → b.setting ≡ (world_book old).setting → KeepsOpening old new
by-world old new b is base setting = record { base = ap (λ (w : WorldBook). w.base) is ∙ base; setting = ap (λ (w : WorldBook). w.setting) is ∙ setting }

-- an image that holds a front of the history holds what is kept, if nothing is pending
pub front-all : (b : WorldBook) → IsFolded b → b.pending ≡ [] → (c : List ℕ) → HoldsFront b c → Holds c b.whole.durable
front-all b folded none c (n, holds) =
    let no-more : take n b.pending ≡ [] = ap (take n) none ∙ take_all n [] (omega arith) in
    let is : after b.base (flat (b.acked ++ take n b.pending)) ≡ b.whole.durable =
    ap (λ (gs : List (List PlainChange)). after b.base (flat (b.acked ++ gs))) no-more ∙ ap (λ (gs : List (List PlainChange)). after b.base (flat gs)) (append-nil b.acked) ∙ sym folded.durable in
    subst (λ (k : PlainDurable). Holds c k) is holds

-- ---- calls that keep no change

module _ {D : Type 0} {device : Ghosts D} where
  -- it is refused, and all is as before
  pub refused-call : (now new : PlainBook D) (c : Command) (e : Refusal) → new ≡ now → is_fault e ≡ false → ((h : CurrentOpening) → IsAt h (world_book now) → Leads h (world_book now) (call c (Refused e)) (upshot now.shown false))
      → IsJudged now.whole.durable c (Refused e) → UsesDevice device false now now (IsLeft (world_book now) (calling c)) → IsCall device now new c (Refused e) None
  refused-call now new c e same calm leads judged quiet =
      let f : ℕ = device.fault_count now.disk in
      subst (λ (l : PlainBook D). IsCall device now l c (Refused e) None) (sym same) (record {
        leads = λ h at. no-fault h (world_book now) (call c (Refused e)) now.shown (nat_lt f f) (not-more f f (omega arith)) (leads h at);
        uses = uses-reported calm quiet;
        given = refl;
        numbered = tt;
        judged = judged;
        stays = record { same = λ is. (refl, refl); pending = λ is. absurd (cc (is, calm)) };
        opening = record { base = refl; setting = refl };
      })

  -- the history is asked
  pub reported-call : (now new : PlainBook D) (x : HistoryCommand) (r : Reply) → AnswersHistory x r (world_book now) (world_book new) → new.disk ≡ now.disk → UsesDevice device false now new (IsLeft (world_book now) (calling (History x)))
      → IsCall device now new (History x) r None
  reported-call now new x r reported disk quiet = by x r reported quiet where
    leads : (x : HistoryCommand) (r : Reply) → AnswersHistory x r (world_book now) (world_book new) → (h : CurrentOpening) → IsAt h (world_book now)
        → Leads h (world_book new) (call (History x) r) (upshot new.shown (nat_lt (device.fault_count now.disk) (device.fault_count new.disk)))
    leads x r reported h at =
        let n : ℕ = device.fault_count now.disk in
        let m : ℕ = device.fault_count new.disk in
        no-fault h (world_book new) (call (History x) r) new.shown (nat_lt n m) (not-more n m (omega (arith, ap device.fault_count disk))) (reported-leads h (world_book now) (world_book new) x r at reported)

    by : (x : HistoryCommand) (r : Reply) → AnswersHistory x r (world_book now) (world_book new) → UsesDevice device false now new (IsLeft (world_book now) (calling (History x))) → IsCall device now new (History x) r None
    by Log r (same, is) quiet = subst (λ (y : Reply). IsCall device now new (History Log) y None) (sym is)
        (record { leads = leads Log _ (same, refl); uses = quiet; given = refl; numbered = tt; judged = tt; stays = disk; opening = by-world now new (world_book now) same refl refl })
    by Publish r (inl (is, all)) quiet = subst (λ (y : Reply). IsCall device now new (History Publish) y None) (sym is)
        (record { leads = leads Publish _ (inl (refl, all)); uses = quiet; given = refl; numbered = tt; judged = tt; stays = disk; opening = by-world now new (shows_all (world_book now)) all refl refl })
    by Publish r (inr (is, same)) quiet = subst (λ (y : Reply). IsCall device now new (History Publish) y None) (sym is) (record {
      leads = leads Publish _ (inr (refl, same));
      uses = quiet;
      given = refl;
      numbered = tt;
      judged = tt;
      stays = record { same = λ is. (same, disk); pending = λ is. absurd (cc (is)) };
      opening = by-world now new (world_book now) same refl refl;
    })
