-- A command's place in a group.
use Rattle.std.proofs.{Common.{◌≡◌, ◌⊎◌, ◌∙◌, ℕ, ◌+◌, ◌≤◌, List, [], ◌∷◌, ◌++◌, length, Option, Some, Ok, inl, inr, refl, sym, ap, subst, append_assoc, append-nil, arith, length-append}, lemmas.{List.Elements.{All-head, All-tail}, List.Sums.fold-append}}
use Rattle.std.specs.{Prelude.{All, map}, Option.ForSome}
use mathlib.Core.List.{IsPrefix}
use Rattle.pf_core.specs.declared.{command.Command.Command, reply.Outcome.Outcome, reply.Reply.Reply, reply.Reply.TheVariants.Applied}
use Rattle.pf_core.specs.{Durable.Changes.{PlainDurable, PlainChange}, Worlds.{Setting, CurrentOpening, State, Event, LegalGroup, IsLegal, down, called_group, log_of, heard_group, group_all, step_in, changes_of, flat, grouped, amid, changes_with, changes_due}}
use Rattle.pf_core.proofs.{Courses.{IsAccepted, accepted, flat-with}, LongerWorlds.in-two}
use Rattle.pf_book.specs.{Groups.{Answered as Receipted, IsAnsweredAmid, AreAnswered, IsGroupAnswered, replies_of}, Receipts.{PlainReceipt, IsNumberOf, token_of}}
use Rattle.pf_book.proofs.GroupTurns.{numbers}
use Rattle.pf_view.proofs.Prefixes.{prefix_self, prefix_trans}
use Rattle.pf_session.specs.Server.{Sittings.IsAnsweredInGroup, Streams.last_receipt}

-- what all commands want begins with what they want so far
due-more : (h : CurrentOpening) (changes : List PlainChange) (commands : List Command) → IsPrefix changes (changes_due h changes commands)
due-more h changes [] = prefix_self changes
due-more h changes (c ∷ commands) =
    prefix_trans changes (changes_with h changes c) (changes_due h (changes_with h changes c) commands) (changes_of (step_in (amid h changes) c), refl) (due-more h (changes_with h changes c) commands)

-- as many answers as commands
pub as-many : (h : CurrentOpening) (shown changes : List PlainChange) (commands : List Command) (answers : List Receipted) → AreAnswered h shown changes commands answers → length answers ≡ length commands
as-many h shown changes [] answers are = ap length are
as-many h shown changes (c ∷ commands) [] are = absurd are
as-many h shown changes (c ∷ commands) (a ∷ answers) are = let more = as-many h shown (changes_with h changes c) commands answers are.1 in omega (arith, more)

all-middle : {A : Type 0} (P : A → Type 0) (front : List A) (x : A) (xs : List A) → All P (front ++ x ∷ xs) → P x
all-middle P [] x xs all = All-head P x xs all
all-middle P (y ∷ front) x xs all = all-middle P front x xs (All-tail P y (front ++ x ∷ xs) all)

-- what a receipt says is so after these changes
pub record IsSoBy (h : CurrentOpening) (changes : List PlainChange) (slip : PlainReceipt) : Type 0 where
  pub begins : IsPrefix slip.front (log_of h ++ changes)
  pub acked : slip.acked ≤ length (log_of h ++ changes)

module _ (h : CurrentOpening) (none : h.pending ≡ []) where
  kept-all : log_of h ≡ flat h.acked
  kept-all = ap (λ (gs : List (List PlainChange)). flat (h.acked ++ gs)) none ∙ ap flat (append-nil h.acked)

  -- the history in the course of a group has what the group wants so far at its end
  log-amid : (changes : List PlainChange) → log_of (amid h changes) ≡ log_of h ++ changes
  log-amid changes =
      ap (λ (gs : List (List PlainChange)). flat ((h.acked ++ grouped changes) ++ gs)) none ∙ ap flat (append-nil (h.acked ++ grouped changes)) ∙ flat-with h.acked changes
      ∙ ap (λ (l : List PlainChange). l ++ changes) (sym kept-all)

  pub front-amid : (changes shown : List PlainChange) (c : Command) (r : Reply) (slip : PlainReceipt) → IsAnsweredAmid (amid h changes) c shown r slip → slip.front ≡ log_of h ++ changes_with h changes c
  front-amid changes shown c r slip one =
      one.front ∙ ap (λ (l : List PlainChange). l ++ changes_of (step_in (amid h changes) c)) (log-amid changes) ∙ append_assoc (log_of h) changes (changes_of (step_in (amid h changes) c))

  own-so : (changes shown : List PlainChange) (c : Command) (r : Reply) (slip : PlainReceipt) → IsAnsweredAmid (amid h changes) c shown r slip → IsSoBy h (changes_with h changes c) slip
  own-so changes shown c r slip one =
      let front : slip.front ≡ log_of h ++ changes_with h changes c = front-amid changes shown c r slip one in
      record { begins = subst (λ (l : List PlainChange). IsPrefix slip.front l) front (prefix_self slip.front); acked = omega (arith, one.acked, ap length front) }

  -- so is the last receipt behind these commands
  pub last-so : (changes shown : List PlainChange) (earlier later : List Command) (reported others : List Receipted) (last : Option PlainReceipt) → length reported ≡ length earlier
      → AreAnswered h shown changes (earlier ++ later) (reported ++ others) → ForSome last (λ l. IsSoBy h changes l) → ForSome (last_receipt last (Ok reported)) (λ l. IsSoBy h (changes_due h changes earlier) l)
  last-so changes shown [] later [] others last place are so = so
  last-so changes shown [] later (a ∷ reported) others last place are so = absurd (omega (arith, place))
  last-so changes shown (k ∷ earlier) later [] others last place are so = absurd (omega (arith, place))
  last-so changes shown (k ∷ earlier) later (a ∷ reported) others last place are so =
      last-so (changes_with h changes k) shown earlier later reported others (Some a.1) (omega (arith, place)) are.1
      (λ slip is. let same : a.1 ≡ slip = cc (is) in subst (λ (s : PlainReceipt). IsSoBy h (changes_with h changes k) s) same (own-so changes shown k a.0 a.1 are.0))

  -- what is so by some changes is so by more of them
  so-more : (changes more : List PlainChange) (slip : PlainReceipt) → IsPrefix changes more → IsSoBy h changes slip → IsSoBy h more slip
  so-more changes more slip p so =
      let whole : (log_of h ++ changes) ++ p.0 ≡ log_of h ++ more = append_assoc (log_of h) changes p.0 ∙ ap (λ (l : List PlainChange). log_of h ++ l) p.1 in record {
        begins = prefix_trans slip.front (log_of h ++ changes) (log_of h ++ more) so.begins (p.0, whole);
        acked = omega (arith, so.acked, ap length whole, length-append (log_of h ++ changes) p.0);
      }

  -- so is the receipt that was handed in, or the last one behind these commands
  pub either-so : (shown : List PlainChange) (earlier later : List Command) (reported others : List Receipted) (handed last : Option PlainReceipt) → length reported ≡ length earlier
      → AreAnswered h shown [] (earlier ++ later) (reported ++ others) → ForSome handed (λ l. IsSoBy h [] l) → (last ≡ handed) ⊎ (last ≡ last_receipt handed (Ok reported))
      → ForSome last (λ l. IsSoBy h (changes_due h [] earlier) l)
  either-so shown earlier later reported others handed last place are so (inl is) = λ slip some. so-more [] (changes_due h [] earlier) slip (due-more h [] earlier) (so slip (sym is ∙ some))
  either-so shown earlier later reported others handed last place are so (inr is) =
      subst (λ (l : Option PlainReceipt). ForSome l (λ s. IsSoBy h (changes_due h [] earlier) s)) (sym is) (last-so [] shown earlier later reported others handed place are so)

  -- the answer at a place
  pub at-place : (changes shown : List PlainChange) (earlier later : List Command) (c : Command) (reported others : List Receipted) (r : Reply) (slip : PlainReceipt) → length reported ≡ length earlier
      → AreAnswered h shown changes (earlier ++ c ∷ later) (reported ++ (r, slip) ∷ others) → IsAnsweredAmid (amid h (changes_due h changes earlier)) c shown r slip
  at-place changes shown [] later c [] others r slip place are = are.0
  at-place changes shown [] later c (a ∷ reported) others r slip place are = absurd (omega (arith, place))
  at-place changes shown (k ∷ earlier) later c [] others r slip place are = absurd (omega (arith, place))
  at-place changes shown (k ∷ earlier) later c (a ∷ reported) others r slip place are =
      at-place (changes_with h changes k) shown earlier later c reported others r slip (omega (arith, place)) are.1

module _ (base : PlainDurable) (setting : Setting) (commands : List Command) (answers : List Receipted) (last : Option PlainReceipt) (a : IsGroupAnswered base setting commands (Ok answers) last) where
  taken : IsAccepted a.before commands (map (λ (x : Receipted). x.0) answers)
  taken =
      let event : Event = called_group commands (replies_of (Ok answers)) a.came in
      let legal : LegalGroup a.before commands (replies_of (Ok answers)) a.came = subst (λ (st : State). IsLegal st event) a.comes (in-two (down a.first) a.world event [] a.legal).here in
      accepted a.before commands (map (λ (x : Receipted). x.0) answers) a.came.failed legal.reply

  -- nothing was pending where a group is answered
  pub none-pending : a.before.pending ≡ []
  none-pending = taken.taken.none

  -- the history then has all that the group wants
  pub log-then : log_of (heard_group a.before commands (replies_of (Ok answers)) a.came) ≡ log_of a.before ++ changes_due a.before [] commands
  log-then =
      let h : CurrentOpening = a.before in
      ap (λ (gs : List (List PlainChange)). flat ((h.acked ++ group_all h commands) ++ gs)) (append-nil h.pending ∙ none-pending) ∙ ap flat (append-nil (h.acked ++ group_all h commands))
      ∙ ap (λ (gs : List (List PlainChange)). flat (h.acked ++ gs)) taken.taken.group ∙ flat-with h.acked (changes_due h [] commands)
      ∙ ap (λ (l : List PlainChange). l ++ changes_due h [] commands) (sym (kept-all h none-pending))

  -- what was handed in is so where the group begins
  pub handed-so : ForSome last (λ l. IsSoBy a.before [] l)
  handed-so slip is =
      let follows = a.follows slip is in
      let whole : log_of a.before ≡ log_of a.before ++ [] = sym (append-nil (log_of a.before)) in
      record {
        begins = subst (λ (l : List PlainChange). IsPrefix slip.front l) whole follows.0;
        acked = omega (arith, follows.1, ap length whole, ap length (kept-all a.before none-pending));
      }

module _ (base : PlainDurable) (setting : Setting) (c : Command) (r : Reply) (slip : PlainReceipt) (last : Option PlainReceipt) (at : IsAnsweredInGroup base setting c r slip last) where
  abbrev commands : List Command
  commands = at.earlier ++ c ∷ at.later

  abbrev answers : List Receipted
  answers = at.reported ++ (r, slip) ∷ at.others

  abbrev h : CurrentOpening
  h = at.group.before

  abbrev log : List PlainChange
  log = log_of (heard_group h commands (replies_of (Ok answers)) at.group.came)

  abbrev so_far : List PlainChange
  so_far = changes_due h [] at.earlier

  none : h.pending ≡ []
  none = none-pending base setting commands answers at.handed at.group

  mine : IsAnsweredAmid (amid h so_far) c log r slip
  mine = at-place h none [] log at.earlier at.later c at.reported at.others r slip at.place at.group.receipts

  front : slip.front ≡ log_of h ++ changes_with h so_far c
  front = front-amid h none so_far log c r slip mine

  last_so : ForSome last (λ l. IsSoBy h so_far l)
  last_so =
      either-so h none log at.earlier (c ∷ at.later) at.reported ((r, slip) ∷ at.others) at.handed last at.place at.group.receipts (handed-so base setting commands answers at.handed at.group) at.last_is

  -- the last receipt's front begins that of the reply
  pub place-begins : (l : PlainReceipt) → last ≡ Some l → IsPrefix l.front slip.front
  place-begins l is =
      let wants : List PlainChange = changes_of (step_in (amid h so_far) c) in
      let whole : (log_of h ++ so_far) ++ wants ≡ slip.front = append_assoc (log_of h) so_far wants ∙ sym front in
      prefix_trans l.front (log_of h ++ so_far) slip.front (last_so l is).begins (wants, whole)

  -- and no fewer changes are acknowledged
  pub place-acked : (l : PlainReceipt) → last ≡ Some l → l.acked ≤ slip.acked
  place-acked l is =
      let wants : List PlainChange = changes_of (step_in (amid h so_far) c) in
      let long : length slip.front ≡ length (log_of h ++ so_far) + length wants = ap length (front ∙ sym (append_assoc (log_of h) so_far wants)) ∙ length-append (log_of h ++ so_far) wants in
      omega (arith, (last_so l is).acked, mine.acked, long)

  -- they are at the command's turn
  pub place-turn : (l : PlainReceipt) → last ≡ Some l → l.acked ≤ length (flat (amid h so_far).acked)
  place-turn l is =
      let all : flat (h.acked ++ grouped so_far) ≡ log_of h ++ so_far = flat-with h.acked so_far ∙ ap (λ (g : List PlainChange). g ++ so_far) (sym (kept-all h none)) in
      omega (arith, (last_so l is).acked, ap length all)

  -- a reply's number is that of its receipt
  pub place-number : IsNumberOf r slip
  place-number = all-middle (λ (x : Receipted). IsNumberOf x.0 x.1) at.reported (r, slip) at.others (numbers base setting commands answers at.handed at.group)

  -- the history after the group begins with the front of the receipt
  pub place-shown : IsPrefix slip.front log
  place-shown =
      let due : changes_due h [] commands ≡ changes_due h (changes_with h so_far c) at.later = fold-append (changes_with h) [] at.earlier (c ∷ at.later) in
      let (more, is) = due-more h (changes_with h so_far c) at.later in
      let whole : log ≡ log_of h ++ changes_due h [] commands = log-then base setting commands answers at.handed at.group in (
        more,
        ap (λ (l : List PlainChange). l ++ more) front ∙ append_assoc (log_of h) (changes_with h so_far c) more ∙ ap (λ (l : List PlainChange). log_of h ++ l) (is ∙ sym due) ∙ sym whole,
      )

  -- after `Applied` the token is that history
  pub place-token : (seq : ℕ) (outcome : Outcome) → r ≡ Applied seq outcome → slip.token ≡ Some log
  place-token seq outcome is = mine.token ∙ ap (λ (x : Reply). token_of x log) is
