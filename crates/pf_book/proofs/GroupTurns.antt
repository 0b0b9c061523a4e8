-- The receipts of a group, one after the other.
use Rattle.std.proofs.{Common.{◌≡◌, ◌⊎◌, ◌∙◌, inl, inr, ℕ, ◌+◌, ◌<◌, ◌≤◌, Bool, true, false, List, [], ◌∷◌, ◌++◌, length, Option, Some, Result, Ok, refl, sym, ap, subst, arith, append_assoc, append-nil, length-append}, lemmas.{List.map-id, List.Elements.{All-nil, All-cons, All-head, All-tail, All-weaker}, List.Kept.AllPairs-cons}}
use Rattle.std.specs.{Prelude.{fold, map, slice_get, All}, List.AllPairs}
use mathlib.Core.List.{IsPrefix}
use Rattle.pf_core.specs.declared.{command.Command.Command, reply.Refusal.Refusal, reply.Reply.Reply, step.Step.Step, step.Step.TheVariants.{Wants}}
use Rattle.pf_core.specs.{Durable.Changes.{PlainDurable, PlainChange}, Worlds.{Setting, CurrentOpening, Event, State, called_group, down, flat, log_of, step_in, reply_to, changes_of, amid, changes_with, changes_due, replies_due, as_stored, shown_by, LegalGroup, IsLegal}}
use Rattle.pf_core.proofs.{Courses.{as_due_or_stored, IsAccepted, accepted}, GroupLeads.{IsShownSo, shown-due, shown-stored}, LongerWorlds.in-two}
use Rattle.pf_view.proofs.Prefixes.{prefix_length, prefix_self, prefix_trans}
use Rattle.pf_book.specs.{Groups.{Answered, AreAnswered, IsAnsweredAmid, IsGroupAnswered}, Receipts.{PlainReceipt, ComesAfter, IsNumberOf}}
use Rattle.pf_book.proofs.{GroupReceipts.log-so-far, LockedCalls.{begins-more, shown-within}}

-- ---- one receipt after another

comes-on : (a b c : PlainReceipt) → ComesAfter a b → ComesAfter b c → ComesAfter a c
comes-on a b c p q = record {
  begins = prefix_trans a.front b.front c.front p.begins q.begins;
  longer = λ e is. omega (arith, prefix_length a.front b.front p.begins, q.longer e is);
  acked = omega (arith, p.acked, q.acked);
  shown = omega (arith, p.shown, q.shown);
}

-- ---- in the course of a group

module _ (h : CurrentOpening) (none : h.pending ≡ []) (log : List PlainChange) (many : ℕ) where
  -- what a receipt says is so after the changes so far
  record IsSoFar (changes : List PlainChange) (slip : PlainReceipt) : Type 0 where
    begins : IsPrefix slip.front (flat h.acked ++ changes)
    acked : slip.acked ≤ length (flat h.acked ++ changes)
    shown : slip.shown ≤ many

  -- the front of the next receipt
  front-next : (changes : List PlainChange) (c : Command) (r : Reply) (slip : PlainReceipt) → IsAnsweredAmid (amid h changes) c log r slip → slip.front ≡ (flat h.acked ++ changes) ++ changes_of (step_in (amid h changes) c)
  front-next changes c r slip one = one.front ∙ ap (λ (l : List PlainChange). l ++ changes_of (step_in (amid h changes) c)) (log-so-far h changes none)

  some-wanted : (s : Result Step Refusal) (e : PlainChange) → slice_get (changes_of s) 0 ≡ Some e → 0 < length (changes_of s)
  some-wanted (Ok (Wants d o)) e is = omega arith
  some-wanted s e is = absurd (cc (is))

  -- the next receipt comes after each that is so by then
  next-after : (changes : List PlainChange) (c : Command) (r : Reply) (slip last : PlainReceipt) → IsAnsweredAmid (amid h changes) c log r slip → slip.shown ≡ many → IsSoFar changes last → ComesAfter last slip
  next-after changes c r slip last one shown so =
      let wants : List PlainChange = changes_of (step_in (amid h changes) c) in
      let front : slip.front ≡ (flat h.acked ++ changes) ++ wants = front-next changes c r slip one in
      let long : length slip.front ≡ length (flat h.acked ++ changes) + length wants = ap length front ∙ length-append (flat h.acked ++ changes) wants in
      record {
        begins = subst (λ (l : List PlainChange). IsPrefix last.front l) (sym front) (begins-more last.front (flat h.acked ++ changes) wants so.begins);
        longer = λ e is. omega (arith, prefix_length last.front (flat h.acked ++ changes) so.begins, long, some-wanted (step_in (amid h changes) c) e (sym one.change ∙ is));
        acked = omega (arith, so.acked, long, one.acked);
        shown = omega (arith, so.shown, shown);
      }

  -- and is so itself behind its command
  next-so : (changes : List PlainChange) (c : Command) (r : Reply) (slip : PlainReceipt) → IsAnsweredAmid (amid h changes) c log r slip → slip.shown ≡ many → IsSoFar (changes_with h changes c) slip
  next-so changes c r slip one shown =
      let front : slip.front ≡ flat h.acked ++ changes_with h changes c = front-next changes c r slip one ∙ append_assoc (flat h.acked) changes (changes_of (step_in (amid h changes) c)) in
      record {
        begins = subst (λ (l : List PlainChange). IsPrefix slip.front l) front (prefix_self slip.front);
        acked = omega (arith, one.acked, ap length front);
        shown = omega (arith, shown);
      }

  all-after : (changes : List PlainChange) (commands : List Command) (answers : List Answered) (last : PlainReceipt) → AreAnswered h log changes commands answers → All (λ (a : Answered). a.1.shown ≡ many) answers → IsSoFar changes last
      → All (λ (a : Answered). ComesAfter last a.1) answers
  all-after changes [] answers last are shown so = subst (All (λ (a : Answered). ComesAfter last a.1)) (sym are) (All-nil (λ (a : Answered). ComesAfter last a.1))
  all-after changes (c ∷ commands) [] last are shown so = absurd are
  all-after changes (c ∷ commands) (a ∷ answers) last are shown so =
      let own : a.1.shown ≡ many = All-head (λ (x : Answered). x.1.shown ≡ many) a answers shown in
      let first : ComesAfter last a.1 = next-after changes c a.0 a.1 last are.0 own so in
      let rest = all-after (changes_with h changes c) commands answers a.1 are.1 (All-tail (λ (x : Answered). x.1.shown ≡ many) a answers shown) (next-so changes c a.0 a.1 are.0 own) in
      All-cons (λ (x : Answered). ComesAfter last x.1) a answers first (All-weaker (λ (x : Answered). ComesAfter a.1 x.1) (λ (x : Answered). ComesAfter last x.1) (λ x. comes-on last a.1 x.1 first) answers rest)

  in-turn : (changes : List PlainChange) (commands : List Command) (answers : List Answered) → AreAnswered h log changes commands answers → All (λ (a : Answered). a.1.shown ≡ many) answers → AllPairs (λ (a b : Answered). ComesAfter a.1 b.1) answers
  in-turn changes [] answers are shown = subst (AllPairs (λ (a b : Answered). ComesAfter a.1 b.1)) (sym are) (λ i j d first following. absurd (omega (arith, following)))
  in-turn changes (c ∷ commands) [] are shown = absurd are
  in-turn changes (c ∷ commands) (a ∷ answers) are shown =
      let own : a.1.shown ≡ many = All-head (λ (x : Answered). x.1.shown ≡ many) a answers shown in
      let others : All (λ (x : Answered). x.1.shown ≡ many) answers = All-tail (λ (x : Answered). x.1.shown ≡ many) a answers shown in
      AllPairs-cons (λ (x y : Answered). ComesAfter x.1 y.1) a answers
      (all-after (changes_with h changes c) commands answers a.1 are.1 others (next-so changes c a.0 a.1 are.0 own)) (in-turn (changes_with h changes c) commands answers are.1 others)

  -- ---- numbers

  number-of : (a : CurrentOpening) (s : Result Step Refusal) (stored : Bool) (slip : PlainReceipt) → slip.front ≡ log_of a ++ changes_of s → slip.acked ≡ length slip.front → IsNumberOf (as_due_or_stored stored (reply_to a s)) slip
  number-of a (Ok (Wants e o)) true slip front acked = let long = ap length front ∙ length-append (log_of a) (e ∷ []) in (sym long, sym long ∙ sym acked)
  number-of a (Ok (Wants e o)) false slip front acked = let long = ap length front ∙ length-append (log_of a) (e ∷ []) in (sym long, sym long ∙ sym acked)
  number-of a s true slip front acked = tt
  number-of a s false slip front acked = tt

  all-numbered : (changes : List PlainChange) (commands : List Command) (answers : List Answered) (stored : Bool) → AreAnswered h log changes commands answers → map (λ (a : Answered). a.0) answers ≡ map (as_due_or_stored stored) (replies_due h changes commands)
      → All (λ (a : Answered). IsNumberOf a.0 a.1) answers
  all-numbered changes [] answers stored are reported = subst (All (λ (a : Answered). IsNumberOf a.0 a.1)) (sym are) (All-nil (λ (a : Answered). IsNumberOf a.0 a.1))
  all-numbered changes (c ∷ commands) [] stored are reported = absurd are
  all-numbered changes (c ∷ commands) (a ∷ answers) stored are reported =
      let s : Result Step Refusal = step_in (amid h changes) c in
      let first : a.0 ≡ as_due_or_stored stored (reply_to (amid h changes) s) = cc (reported) in
      All-cons (λ (x : Answered). IsNumberOf x.0 x.1) a answers
      (subst (λ (r : Reply). IsNumberOf r a.1) (sym first) (number-of (amid h changes) s stored a.1 are.0.front are.0.acked)) (all-numbered (changes_with h changes c) commands answers stored are.1 (cc (reported)))

-- ---- a group under the lock

module _ (base : PlainDurable) (setting : Setting) (commands : List Command) (answers : List Answered) (last : Option PlainReceipt) (a : IsGroupAnswered base setting commands (Ok answers) last) where
  abbrev replies : List Reply
  replies = map (λ (x : Answered). x.0) answers

  abbrev event : Event
  event = called_group commands (Ok replies) a.came

  legal : LegalGroup a.before commands (Ok replies) a.came
  legal = subst (λ (st : State). IsLegal st event) a.comes (in-two (down a.first) a.world event [] a.legal).here

  taken : IsAccepted a.before commands replies
  taken = accepted a.before commands replies a.came.failed legal.reply

  -- no group shows less
  shows-no-less : a.before.shown ≤ a.came.shown
  shows-no-less = by taken.stored taken.reported where
    within : a.before.shown ≤ length (flat a.before.acked)
    within = shown-within a.first a.world a.before event a.legal a.comes

    shown : List Reply → ℕ
    shown rs = fold (λ (n : ℕ) (r : Reply). shown_by r n) a.before.shown rs

    due : List Reply
    due = replies_due a.before [] commands

    so : IsShownSo a.before a.before.shown (changes_due a.before [] commands) (fold (λ (n : ℕ) (r : Reply). shown_by r n) a.before.shown due) → a.before.shown ≤ fold (λ (n : ℕ) (r : Reply). shown_by r n) a.before.shown due
    so (inl (nothing, still)) = omega (arith, still)
    so (inr all) = omega (arith, all, within)

    by : (stored : Bool) → replies ≡ map (as_due_or_stored stored) due → a.before.shown ≤ a.came.shown
    by true reported = omega (arith, legal.shown ∙ ap (fold (λ (n : ℕ) (r : Reply). shown_by r n) a.before.shown) reported ∙ shown-stored a.before [] a.before.shown commands taken.taken.may)
    by false reported = omega (arith, legal.shown ∙ ap (fold (λ (n : ℕ) (r : Reply). shown_by r n) a.before.shown) (reported ∙ map-id due), so (shown-due a.before a.before.shown [] a.before.shown commands taken.taken.none taken.taken.may (inl (refl, refl))))

  -- its replies are those that are due, or all of them stored
  pub are-due : (replies ≡ replies_due a.before [] commands) ⊎ (replies ≡ map as_stored (replies_due a.before [] commands))
  are-due = by taken.stored taken.reported where
    by : (stored : Bool) → replies ≡ map (as_due_or_stored stored) (replies_due a.before [] commands) → (replies ≡ replies_due a.before [] commands) ⊎ (replies ≡ map as_stored (replies_due a.before [] commands))
    by true reported = inr reported
    by false reported = inl (reported ∙ map-id (replies_due a.before [] commands))

  pub turns : AllPairs (λ (x y : Answered). ComesAfter x.1 y.1) answers
  turns = in-turn a.before taken.taken.none _ a.came.shown [] commands answers a.receipts a.shown

  pub numbers : All (λ (x : Answered). IsNumberOf x.0 x.1) answers
  numbers = all-numbered a.before taken.taken.none _ a.came.shown [] commands answers taken.stored a.receipts taken.reported

  pub after-last : (handed : PlainReceipt) → last ≡ Some handed → All (λ (x : Answered). ComesAfter handed x.1) answers
  after-last handed is =
      let b : CurrentOpening = a.before in
      let none : b.pending ≡ [] = taken.taken.none in
      let follows = a.follows handed is in
      let whole : log_of b ≡ flat b.acked ++ [] = ap (λ (gs : List (List PlainChange)). flat (b.acked ++ gs)) none ∙ ap flat (append-nil b.acked) ∙ sym (append-nil (flat b.acked)) in
      all-after b none _ a.came.shown [] commands answers handed a.receipts a.shown (record {
        begins = subst (λ (l : List PlainChange). IsPrefix handed.front l) whole follows.0;
        acked = omega (arith, follows.1, ap length (append-nil (flat b.acked)));
        shown = omega (arith, a.shows handed is, shows-no-less);
      })
