-- A session that asks: its calls change nothing, and what its lines do.
use Rattle.std.proofs.Common.{◌≡◌, ◌∙◌, ℕ, ◌++◌, Bool, true, false, List, [], ◌∷◌, Option, Some, None, Result, Ok, Err, inl, inr, refl, sym, ap, subst, append-nil}
use Rattle.std.specs.Prelude.{if◌then◌else◌}
use Rattle.pf_core.specs.declared.{command.Command.Command, command.Command.TheVariants.{Transact, Edit, States, Ask, History}, command.HistoryCommand.TheVariants.{Log, Publish}, command.Question.Question, reply.Answer.Answer as Reported, reply.Refusal.Refusal, reply.Reply.Reply, reply.Reply.TheVariants.{Answer, Applied, Stored, Refused}}
use Rattle.pf_core.specs.{Calls.call, Commands.answer_of, Durable.Changes.{PlainDurable, PlainChange}, Worlds.{CurrentOpening, Setting, Upshot, State, down, called, acked_by, due, durable_of, group_in, heard, is_fault, pending_by, shown_by, shown_by_answer, history_answer, IsLegal, LegalCall, LegalReply, StandsIn}}
use Rattle.pf_core.proofs.{LongerWorlds.in-two, Showing.shows-nothing}
use Rattle.pf_book.specs.Receipts.{PlainReceipt, IsAnswered}
use Rattle.pf_line.specs.declared.request.Request.{Request}
use Rattle.pf_session.specs.declared.server.asking.Asker.{Asker}
use Rattle.pf_session.specs.{LineEngine.Chains.Chain, Telling.{IsReplyTo, Says}, Server.Askings.{AsksBy, AsksOrShows, AsksLines, IsHeard, IsInquired, denied_text, is_denied}, Server.AskingRuns.{AsksInSession, IsSameAsker, TakesInAsking, place}, Server.Inquiries.is_inquiry, Server.Sittings.{Sitting, next_line}}

-- ---- nothing is changed

-- what is asked is due an answer, which shows nothing, or want of memory stands in for it
answer-shows : (h : CurrentOpening) (c : Command) (failed : Bool) (a : Reported) → ((n : ℕ) → shown_by_answer a n ≡ n) → due h c ≡ Answer a
    → (r : Reply) → LegalReply h c r failed → shown_by r h.shown ≡ h.shown
answer-shows h c failed a none is r (inl legal) = ap (λ (x : Reply). shown_by x h.shown) (legal ∙ is) ∙ none h.shown
answer-shows h c failed a none is r (inr stands) = by r (subst (λ (x : Reply). StandsIn h c failed x r) is stands) where
  by : (x : Reply) → StandsIn h c failed (Answer a) x → shown_by x h.shown ≡ h.shown
  by (Answer b) never = absurd never
  by (Applied n o) never = absurd never
  by (Stored n o) never = absurd never
  by (Refused e) some = refl

-- a question, or how many changes there are
data IsHarmless : Command → Type 0 where
  question : (q : Question) → IsHarmless (Ask q)
  log : IsHarmless (History Log)

harmless : (c : Command) → is_inquiry c ≡ true → IsHarmless c
harmless (Transact t) is = absurd (cc (is))
harmless (Edit edit) is = absurd (cc (is))
harmless (States s) is = absurd (cc (is))
harmless (Ask q) is = question q
harmless (History Log) is = log
harmless (History Publish) is = absurd (cc (is))

inquiry-shows : (h : CurrentOpening) (c : Command) (r : Reply) (failed : Bool) → IsHarmless c → LegalReply h c r failed → shown_by r h.shown ≡ h.shown
inquiry-shows h c r failed (question q) legal =
    answer-shows h (Ask q) failed (answer_of (durable_of h) q) (shows-nothing h.tickets (durable_of h) (Ask q) (answer_of (durable_of h) q) refl) refl r legal
inquiry-shows h c r failed log legal = answer-shows h (History Log) failed (history_answer h Log) (λ n. refl) refl r legal

same-tickets : (h : CurrentOpening) (c : Command) (r : Reply) (t : Upshot) → IsHarmless c → (heard h (call c r) t).tickets ≡ h.tickets
same-tickets h c (Answer a) t (question q) = refl
same-tickets h c (Applied n o) t (question q) = refl
same-tickets h c (Stored n o) t (question q) = refl
same-tickets h c (Refused e) t (question q) = refl
same-tickets h c (Answer a) t log = refl
same-tickets h c (Applied n o) t log = refl
same-tickets h c (Stored n o) t log = refl
same-tickets h c (Refused e) t log = refl

no-group : (h : CurrentOpening) (c : Command) → IsHarmless c → group_in h c ≡ []
no-group h c (question q) = refl
no-group h c log = refl

none-acked : (r : Reply) → acked_by r [] ≡ []
none-acked (Answer a) = refl
none-acked (Applied n o) = refl
none-acked (Stored n o) = refl
none-acked (Refused e) = refl

no-either : (b : Bool) (gs : List (List PlainChange)) → (if b then gs else gs) ≡ gs
no-either true gs = refl
no-either false gs = refl

none-pending : (r : Reply) → pending_by r [] ≡ []
none-pending (Answer a) = refl
none-pending (Applied n o) = refl
none-pending (Stored n o) = refl
none-pending (Refused e) = no-either (is_fault e) []

-- an opening that has these parts of another one
opening-is : (h o : CurrentOpening) → o.tickets ≡ h.tickets → o.acked ≡ h.acked → o.pending ≡ h.pending → o.shown ≡ h.shown
    → record h { tickets = o.tickets; acked = o.acked; pending = o.pending; shown = o.shown } ≡ h
opening-is h o t a p s = rw (t, a, p, s) refl

-- what changes nothing leaves the opening as it was
leaves-as-was : (h : CurrentOpening) (c : Command) (r : Reply) (t : Upshot) → IsHarmless c → LegalCall h (call c r) t → heard h (call c r) t ≡ h
leaves-as-was h c r t is legal = opening-is h (heard h (call c r) t) (same-tickets h c r t is)
    (ap (λ (g : List (List PlainChange)). h.acked ++ acked_by r g) (no-group h c is) ∙ ap (λ (g : List (List PlainChange)). h.acked ++ g) (none-acked r) ∙ append-nil h.acked)
    (ap (λ (g : List (List PlainChange)). h.pending ++ pending_by r g) (no-group h c is) ∙ ap (λ (g : List (List PlainChange)). h.pending ++ g) (none-pending r) ∙ append-nil h.pending)
    (legal.shown ∙ inquiry-shows h c r t.failed is legal.reply)

pub asked-as-was : (base : PlainDurable) (setting : Setting) (c : Command) (r : Reply) (slip : PlainReceipt) (last : Option PlainReceipt)
    (a : IsAnswered base setting c r slip last) → is_inquiry c ≡ true → heard a.before (call c r) a.came ≡ a.before
asked-as-was base setting c r slip last a is =
    let event = called (call c r) a.came in
    leaves-as-was a.before c r a.came (harmless c is) (subst (λ (st : State). IsLegal st event) a.comes (in-two (down a.first) a.world event [] a.legal).here)

-- ---- by its commands

module _ (base : PlainDurable) (setting : Setting) (c : Command) (old new : Sitting) (text : List ℕ) where
  by-kind : (b : Bool) → is_inquiry c ≡ b → AsksBy None b base setting c old new text → AsksBy None (is_inquiry c) base setting c old new text
  by-kind b is asked = subst (λ (k : Bool). AsksBy None k base setting c old new text) (sym is) asked

  -- what is asked is the command of this inquiry
  pub asks-inquired : (q : Command) → q ≡ c → is_inquiry q ≡ true → IsInquired base setting q old new text → AsksBy None (is_inquiry c) base setting c old new text
  asks-inquired q is asks inquired =
      by-kind true (subst (λ (k : Command). is_inquiry k ≡ true) is asks) (subst (λ (k : Command). IsInquired base setting k old new text) is inquired)

  -- what is no question is denied
  pub asks-denied : is_inquiry c ≡ false → new ≡ old → text ≡ denied_text → AsksBy None (is_inquiry c) base setting c old new text
  asks-denied is same reported = by-kind false is (record { same = same; reported = reported })

-- ---- by its lines

module _ {A J G : Type 0} where
  pub same-still : (s : Asker A J G) → IsSameAsker s s
  same-still s = record { seer = refl; last = refl; number = refl; gate = refl }

  same-then : {a b c : Asker A J G} → IsSameAsker a b → IsSameAsker b c → IsSameAsker a c
  same-then p q = record { seer = q.seer ∙ p.seer; last = q.last ∙ p.last; number = q.number ∙ p.number; gate = q.gate ∙ p.gate }

  stays-same : (start a b : Asker A J G) → b ≡ a → IsSameAsker start a → IsSameAsker start b
  stays-same start a b is same = subst (λ (s : Asker A J G). IsSameAsker start s) (sym is) same

  stays-place : (a b : Asker A J G) → b ≡ a → place b ≡ place a
  stays-place a b is = ap (λ (s : Asker A J G). place s) is

module _ {A J G : Type 0} (base : PlainDurable) (setting : Setting) where
  says-place : (meant : Result (Option Request) Refusal) (a b : Asker A J G) (text : List ℕ) → Says (AsksInSession base setting) meant a b text
      → IsSameAsker a b × Says (AsksOrShows base setting) meant (place a) (place b) text
  says-place (Ok None) a b text says = (stays-same a a b says.0 (same-still a), (stays-place a b says.0, says.1))
  says-place (Ok (Some q)) a b text says = (says.same, says.runs)
  says-place (Err e) a b text says = (stays-same a a b says.0 (same-still a), (stays-place a b says.0, says.1))

  -- the reply to a line, as far as the session moves on by it
  reply-place : (line : List ℕ) (a b : Asker A J G) (text : List ℕ) → IsReplyTo (AsksInSession base setting) line a b text
      → IsSameAsker a b × IsReplyTo (AsksOrShows base setting) line (place a) (place b) text
  reply-place line a b text (inl (meant, means, says)) = let (same, ran) = says-place meant a b text says in (same, inl (meant, means, ran))
  reply-place line a b text (inr none) =
      (stays-same a a b none.same (same-still a), inr (record { speaks = none.speaks; same = stays-place a b none.same; reported = none.reported }))

module _ {A J G : Type 0} (passed : G → ℕ → ℕ → Type 0) (base : PlainDurable) (setting : Setting) where
  -- the line that comes next, which has this number, is denied
  pub denied-one : (old : Asker A J G) (line : List ℕ) (n : ℕ) → n ≡ next_line old.line → passed old.gate.now old.number n
      → is_denied line ≡ true → TakesInAsking passed base setting line old (record old { line = n }) denied_text
  denied-one old line n is gate denied = record {
    same = record { seer = refl; last = refl; number = refl; gate = refl };
    takes = record {
      gate = subst (λ (k : ℕ). passed old.gate.now old.number k) is gate;
      reported = subst (λ (d : Bool). IsHeard d base setting line (record (place old) { line = next_line old.line }) (record (place old) { line = n }) denied_text) (sym denied)
          (record { same = ap (λ (k : ℕ). record (place old) { line = k }) is; reported = refl });
    };
  }

  -- or it is answered
  pub answered-one : (old new : Asker A J G) (line text : List ℕ) (n : ℕ) → n ≡ next_line old.line → passed old.gate.now old.number n
      → is_denied line ≡ false → IsReplyTo (AsksInSession base setting) line (record old { line = n }) new text → TakesInAsking passed base setting line old new text
  answered-one old new line text n is gate allowed reported =
      let (same, by) = reply-place base setting line (record old { line = n }) new text reported in
      record {
        same = record { seer = same.seer; last = same.last; number = same.number; gate = same.gate };
        takes = record {
          gate = subst (λ (k : ℕ). passed old.gate.now old.number k) is gate;
          reported = subst (λ (d : Bool). IsHeard d base setting line (record (place old) { line = next_line old.line }) (place new) text) (sym allowed)
              (subst (λ (k : ℕ). IsReplyTo (AsksOrShows base setting) line (record (place old) { line = k }) (place new) text) is by);
        };
      }

  -- what it does is done by the session that it began as
  pub asked-all : (start a b : Asker A J G) (lines : List (List ℕ)) (text : List ℕ) → IsSameAsker start a → Chain (TakesInAsking passed base setting) a b lines text
      → AsksLines (passed start.gate.now start.number) base setting (place a) (place b) lines text × IsSameAsker start b
  asked-all start a b [] text same (is, none) = ((stays-place a b is, none), stays-same start a b is same)
  asked-all start a b (line ∷ lines) text same (mid, first, rest, step, more, reported) =
      let (others, still) = asked-all start mid b lines rest (same-then same step.same) more in
      ((place mid, first, rest, rw (sym same.gate, sym same.number) step.takes, others, reported), still)
