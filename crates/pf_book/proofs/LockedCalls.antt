-- What a call comes to under the lock.
use Rattle.std.proofs.{Common.{◌≡◌, ◌⊎◌, inl, inr, ℕ, ◌+◌, ◌<◌, ◌≤◌, Bool, List, [], ◌∷◌, ◌++◌, length, take, Option, Some, Result, Ok, refl, sym, ap, ◌∙◌, subst, arith, append_assoc, append-nil, length-append}, lemmas.List.take_all}
use Rattle.std.specs.{Prelude.◌&&◌, Option.ForSome}
use mathlib.Core.List.{IsPrefix}
use Rattle.pf_core.specs.declared.{command.Command.Command, command.HistoryCommand.HistoryCommand, command.HistoryCommand.TheVariants.{Log, Publish}, reply.Outcome.Outcome, reply.Refusal.Refusal, reply.Reply.Reply, reply.Reply.TheVariants.{Answer, Applied, Stored, Refused}, step.Step.Step, step.Step.TheVariants.{Done}}
use Rattle.pf_core.specs.{Calls.call, Commands.{step_by, may_change}, Durable.Changes.{PlainDurable, PlainChange}, WorldBooks.{WorldBook, IsAt, IsFolded, Leads, LeadsGroup, StandsFor}, Worlds.{Setting, CurrentOpening, down, up, Upshot, Event, called, called_group, heard_group, flat, log_of, durable_of, is_halted, acked_by, step_in, group_in, heard, shown_by, shown_by_answer, history_answer, State, state_after, LegalReply, LegalCall, IsLegal, IsWorld}}
use Rattle.pf_core.specs.declared.reply.Answer.{Answer as ReportedOf}
use Rattle.pf_core.proofs.{Prefixes.flat-append, Groups.either, Limits.{IsOfHistory, answered-step, applied-step, stored-step}, Showing.{shows-nothing, shows_all}, Stepping.unhalted, LongerWorlds.{flat-push, stands-on, stands-on-group, in-two}}
use Rattle.pf_view.proofs.Prefixes.{prefix_whole}
use Rattle.pf_book.specs.Groups.{Answered as Reported, AreDueAsAlone, HasReceipts, HaveShown, IsAnsweredAsAlone, IsGroupAnswered, replies_of}
use Rattle.pf_book.specs.{Books.{log_in, IsMore, IsNumbered}, Receipts.{PlainReceipt, EndsIn, ShownFits, receipt_of, token_of, IsAdded, IsGiven, Follows, ShowsNoLess, TakesUp, IsReached, IsLast, IsChangeOf, IsAnswered}}

-- ---- lists

same-rest : (gs xs ys : List (List PlainChange)) → gs ++ xs ≡ gs ++ ys → xs ≡ ys
same-rest [] xs ys is = is
same-rest (g ∷ gs) xs ys is = same-rest gs xs ys (cc (is))

-- what begins a list begins a longer one
pub begins-more : (xs ys zs : List PlainChange) → IsPrefix xs ys → IsPrefix xs (ys ++ zs)
begins-more xs ys zs p = (p.0 ++ zs, sym (append_assoc xs p.0 zs) ∙ ap (λ (l : List PlainChange). l ++ zs) p.1)

shorter : (xs ys : List PlainChange) → IsPrefix xs ys → length xs ≤ length ys
shorter xs ys p = omega (arith, ap length p.1, length-append xs p.0)

more-acked : (gs hs : List (List PlainChange)) → length (flat gs) ≤ length (flat (gs ++ hs))
more-acked gs hs = omega (arith, ap length (flat-append gs hs), length-append (flat gs) (flat hs))

-- ---- what a world's history is

pub log-at : (h : CurrentOpening) (b : WorldBook) → IsAt h b → log_in b ≡ log_of h
log-at h b at = ap (λ (gs : List (List PlainChange)). flat (gs ++ b.pending)) at.acked ∙ ap (λ (gs : List (List PlainChange)). flat (h.acked ++ gs)) at.pending

-- a change after all others
pub log-added : (change : Option PlainChange) (old new : WorldBook) → (added : IsAdded change old new) → log_in new ≡ log_in old ++ added.made ∷ []
log-added change old new added =
    let one : List (List PlainChange) = (added.made ∷ []) ∷ [] in
    ap (λ (gs : List (List PlainChange)). flat (new.acked ++ gs)) added.none_after ∙ ap flat (append-nil new.acked) ∙ ap flat added.acked ∙ flat-push old.acked added.made
    ∙ ap (λ (gs : List (List PlainChange)). flat gs ++ added.made ∷ []) (sym (append-nil old.acked)) ∙ ap (λ (gs : List (List PlainChange)). flat (old.acked ++ gs) ++ added.made ∷ []) (sym added.none_before)

-- a change that was kept is such a change
pub added-by : (old kept new : WorldBook) (e : PlainChange) (change : Option PlainChange) → IsMore old kept (e ∷ []) → new.acked ≡ kept.acked → new.pending ≡ kept.pending → old.pending ≡ [] → change ≡ Some e → IsAdded change old new
added-by old kept new e change more acked pending free is = record {
  made = e;
  is = is;
  acked = acked ∙ more.acked;
  none_before = free;
  none_after = pending ∙ more.pending ∙ free;
}

-- then the whole history is acknowledged
all-added : (change : Option PlainChange) (old new : WorldBook) → IsAdded change old new → log_in new ≡ flat new.acked
all-added change old new added = ap (λ (gs : List (List PlainChange)). flat (new.acked ++ gs)) added.none_after ∙ ap flat (append-nil new.acked)

-- and the change is its last one
added-last : (change : Option PlainChange) (old new : WorldBook) → IsAdded change old new → ForSome change (λ e. EndsIn (take (length (log_in new)) (log_in new)) e × (length (log_in new) ≤ length (flat new.acked)))
added-last change old new added = λ e some.
    let same : added.made ≡ e = cc (added.is, some) in
    let whole : take (length (log_in new)) (log_in new) ≡ log_in old ++ e ∷ [] =
    take_all (length (log_in new)) (log_in new) (omega arith) ∙ subst (λ (x : PlainChange). log_in new ≡ log_in old ++ x ∷ []) same (log-added change old new added) in
    ((log_in old, whole), omega (arith, ap length (all-added change old new added)))

pub given-last : (r : Reply) (change : Option PlainChange) (old new : WorldBook) → IsGiven r change old new → ForSome change (λ e. EndsIn (take (length (log_in new)) (log_in new)) e × (length (log_in new) ≤ length (flat new.acked)))
given-last (Answer a) change old new given = λ e some. absurd (cc (given, some))
given-last (Applied n o) change old new given = added-last change old new given
given-last (Stored n o) change old new given = added-last change old new given
given-last (Refused why) change old new given = λ e some. absurd (cc (given, some))

-- after `Applied` all are shown
pub shown-fits : (r : Reply) (change : Option PlainChange) (before : ℕ) (old new : WorldBook) → new.shown ≡ shown_by r before → IsNumbered r new → IsGiven r change old new → ShownFits r new.shown (length (log_in new))
shown-fits (Answer a) change before old new is numbered given = tt
shown-fits (Applied n o) change before old new is numbered given = is ∙ numbered ∙ ap length (sym (all-added change old new given))
shown-fits (Stored n o) change before old new is numbered given = tt
shown-fits (Refused e) change before old new is numbered given = tt

-- so what is shown then is the whole history
pub token-is : (r : Reply) (shown log : List PlainChange) → IsPrefix shown log → ShownFits r (length shown) (length log) → token_of r shown ≡ token_of r log
token-is (Answer a) shown log begins fits = refl
token-is (Applied n o) shown log begins fits = ap Some (prefix_whole shown log begins (omega (arith, fits)))
token-is (Stored n o) shown log begins fits = refl
token-is (Refused e) shown log begins fits = refl

-- ---- one call under the lock

last-is : (h : CurrentOpening) (c : Command) (slip : PlainReceipt) (old new : WorldBook) → IsAt h old → new.acked ≡ h.acked ++ group_in h c → slip.front ≡ log_in new → IsAdded slip.change old new → IsLast h c slip
last-is h c slip old new at grown front added = record {
  made = added.made;
  is = added.is;
  due = same-rest h.acked (group_in h c) ((added.made ∷ []) ∷ []) (sym grown ∙ added.acked ∙ ap (λ (gs : List (List PlainChange)). gs ++ (added.made ∷ []) ∷ []) at.acked);
  last = front ∙ log-added slip.change old new added ∙ ap (λ (l : List PlainChange). l ++ added.made ∷ []) (log-at h old at);
}

change-is : (h : CurrentOpening) (c : Command) (r : Reply) (t : Upshot) (slip : PlainReceipt) (old new : WorldBook) → IsAt h old → IsAt (heard h (call c r) t) new → slip.front ≡ log_in new → IsGiven r slip.change old new → IsChangeOf r h c slip
change-is h c (Answer a) t slip old new at after front given = given
change-is h c (Applied n o) t slip old new at after front given = last-is h c slip old new at after.acked front given
change-is h c (Stored n o) t slip old new at after front given = last-is h c slip old new at after.acked front given
change-is h c (Refused e) t slip old new at after front given = given

module _ (base : PlainDurable) (setting : Setting) (old new : WorldBook) (c : Command) (r : Reply) (t : Upshot) (reached : IsReached base setting old) (leads : (h : CurrentOpening) → IsAt h old → Leads h new (call c r) t)
    (folded : IsFolded new) where
  -- what a call leads to is reached as well
  pub reached-on : new.base ≡ old.base → new.setting ≡ old.setting → IsReached base setting new
  reached-on same_base same_setting = record {
    base_is = same_base ∙ reached.base_is;
    setting_is = same_setting ∙ reached.setting_is;
    first = reached.first;
    world = reached.world ++ called (call c r) t ∷ [];
    stands = stands-on reached.first old new reached.world (call c r) t reached.stands (leads reached.stands.held reached.stands.at) folded;
  }

  pub answered : (slip : PlainReceipt) (last : Option PlainReceipt) → slip ≡ receipt_of new (length (log_in new)) slip.change r → new.shown ≡ t.shown → IsGiven r slip.change old new → TakesUp last old → IsAnswered base setting c r slip last
  answered slip last says shown given takes =
      let front : slip.front ≡ log_in new = ap (λ (s : PlainReceipt). s.front) says ∙ take_all (length (log_in new)) (log_in new) (omega arith) in
      let acked : slip.acked ≡ length (flat new.acked) = omega (arith, ap (λ (s : PlainReceipt). s.acked) says, more-acked new.acked new.pending) in
      let h : CurrentOpening = reached.stands.held in
      let at : IsAt h old = reached.stands.at in
      let on : Leads h new (call c r) t = leads h at in
      record {
        first = reached.first;
        world = reached.world;
        before = h;
        came = t;
        comes = reached.stands.comes;
        base_is = sym at.base ∙ reached.base_is;
        setting_is = sym at.setting ∙ reached.setting_is;
        legal = (stands-on reached.first old new reached.world (call c r) t reached.stands on folded).legal;
        front = front ∙ log-at (heard h (call c r) t) new on.at;
        acked = acked ∙ ap (λ (gs : List (List PlainChange)). length (flat gs)) on.at.acked;
        shown = ap (λ (s : PlainReceipt). s.shown) says ∙ shown;
        change = change-is h c r t slip old new at on.at front given;
        token = ap (λ (s : PlainReceipt). s.token) says ∙ ap (token_of r) (sym front);
        follows = subst (λ (gs : List (List PlainChange)). Follows last (log_of h) (length (flat gs))) at.acked (subst (λ (l : List PlainChange). Follows last l (length (flat old.acked))) (log-at h old at) takes.follows);
        shows = subst (ShowsNoLess last) at.shown takes.shows;
      }

-- ---- what receipts come to

-- a reply that keeps no change leaves the history as it was, but perhaps with a change at its end that wasn't acknowledged
still-begins : (h : CurrentOpening) (gs : List (List PlainChange)) (xs : List PlainChange) → IsPrefix xs (log_of h) → IsPrefix xs (flat ((h.acked ++ []) ++ (h.pending ++ gs)))
still-begins h gs xs p =
    let is : flat ((h.acked ++ []) ++ (h.pending ++ gs)) ≡ log_of h ++ flat gs =
    ap (λ (l : List (List PlainChange)). flat (l ++ (h.pending ++ gs))) (append-nil h.acked) ∙ ap flat (sym (append_assoc h.acked h.pending gs)) ∙ flat-append (h.acked ++ h.pending) gs in
    subst (λ (l : List PlainChange). IsPrefix xs l) (sym is) (begins-more xs (log_of h) (flat gs) p)

last-begins : (h : CurrentOpening) (c : Command) (slip : PlainReceipt) (xs : List PlainChange) → IsLast h c slip → IsPrefix xs (log_of h) → IsPrefix xs slip.front
last-begins h c slip xs last p = subst (λ (l : List PlainChange). IsPrefix xs l) (sym last.last) (begins-more xs (log_of h) (last.made ∷ []) p)

pub front-begins : (h : CurrentOpening) (c : Command) (r : Reply) (t : Upshot) (slip : PlainReceipt) (xs : List PlainChange) → slip.front ≡ log_of (heard h (call c r) t) → IsChangeOf r h c slip → IsPrefix xs (log_of h) → IsPrefix xs slip.front
front-begins h c (Answer a) t slip xs front change p = subst (λ (l : List PlainChange). IsPrefix xs l) (sym front) (still-begins h _ xs p)
front-begins h c (Applied n o) t slip xs front change p = last-begins h c slip xs change p
front-begins h c (Stored n o) t slip xs front change p = last-begins h c slip xs change p
front-begins h c (Refused e) t slip xs front change p = subst (λ (l : List PlainChange). IsPrefix xs l) (sym front) (still-begins h _ xs p)

last-longer : (h : CurrentOpening) (c : Command) (slip : PlainReceipt) (xs : List PlainChange) → IsLast h c slip → IsPrefix xs (log_of h) → length xs < length slip.front
last-longer h c slip xs last p = omega (arith, shorter xs (log_of h) p, ap length last.last, length-append (log_of h) (last.made ∷ []))

pub change-longer : (h : CurrentOpening) (c : Command) (r : Reply) (slip : PlainReceipt) (e : PlainChange) (xs : List PlainChange) → IsChangeOf r h c slip → slip.change ≡ Some e → IsPrefix xs (log_of h) → length xs < length slip.front
change-longer h c (Answer a) slip e xs change is p = absurd (cc (change, is))
change-longer h c (Applied n o) slip e xs change is p = last-longer h c slip xs change p
change-longer h c (Stored n o) slip e xs change is p = last-longer h c slip xs change p
change-longer h c (Refused x) slip e xs change is p = absurd (cc (change, is))

-- ---- what is acknowledged

-- if a change is kept none was pending
none-pending : (h : CurrentOpening) (c : Command) (slip : PlainReceipt) → IsLast h c slip → h.pending ≡ []
none-pending h c slip last = by (either h c) where
  by : (h.pending ≡ []) ⊎ (group_in h c ≡ []) → h.pending ≡ []
  by (inl none) = none
  by (inr nothing) = absurd (cc (last.due, nothing))

last-acked : (h : CurrentOpening) (c : Command) (slip : PlainReceipt) (n : ℕ) → IsLast h c slip → slip.acked ≡ length (flat (h.acked ++ group_in h c)) → n ≡ length (log_of h) + 1 → n ≡ slip.acked
last-acked h c slip n last acked is =
    let all : log_of h ≡ flat h.acked = ap (λ (gs : List (List PlainChange)). flat (h.acked ++ gs)) (none-pending h c slip last) ∙ ap flat (append-nil h.acked) in
    let more : flat (h.acked ++ group_in h c) ≡ flat h.acked ++ last.made ∷ [] = ap (λ (gs : List (List PlainChange)). flat (h.acked ++ gs)) last.due ∙ flat-push h.acked last.made in
    omega (arith, is, acked, ap length all, ap length more, length-append (flat h.acked) (last.made ∷ []))

-- ---- numbers

legal-applied : (h : CurrentOpening) (c : Command) (n : ℕ) (o : Outcome) (failed : Bool) → LegalReply h c (Applied n o) failed → n ≡ length (log_of h) + 1
legal-applied h c n o failed (inl is) = (applied-step h (step_in h c) n o is).number
legal-applied h c n o failed (inr none) = absurd none

last-number : (h : CurrentOpening) (c : Command) (slip : PlainReceipt) (n : ℕ) → IsLast h c slip → n ≡ length (log_of h) + 1 → n ≡ length slip.front
last-number h c slip n last is = omega (arith, is, ap length last.last, length-append (log_of h) (last.made ∷ []))

-- ---- what is shown

reported-more : (h : CurrentOpening) (x : HistoryCommand) → h.shown ≤ length (flat h.acked) → h.shown ≤ shown_by_answer (history_answer h x) h.shown
reported-more h Log within = omega arith
reported-more h Publish within = within

-- no call shows less
shows-more : (h : CurrentOpening) (c : Command) (r : Reply) (failed : Bool) → LegalReply h c r failed → h.shown ≤ length (flat h.acked) → h.shown ≤ shown_by r h.shown
shows-more h c (Answer a) failed (inl is) within = by (answered-step h (step_in h c) a is) where
  steps : Result Step Refusal
  steps = step_by h.tickets (durable_of h) c

  by : (step_in h c ≡ Ok (Done a)) ⊎ IsOfHistory h (step_in h c) a → h.shown ≤ shown_by_answer a h.shown
  by (inl done) = omega (arith, shows-nothing h.tickets (durable_of h) c a (unhalted (may_change c && is_halted h.pending) steps (Done a) done) h.shown)
  by (inr k) = subst (λ (x : ReportedOf). h.shown ≤ shown_by_answer x h.shown) (sym k.answer) (reported-more h k.command within)
shows-more h c (Answer a) failed (inr none) within = absurd none
shows-more h c (Applied n o) failed legal within = omega (arith, legal-applied h c n o failed legal, within, more-acked h.acked h.pending)
shows-more h c (Stored n o) failed legal within = omega arith
shows-more h c (Refused e) failed legal within = omega arith

-- before a legal event no more is shown than was acknowledged
pub shown-within : (first : PlainDurable) (world : List Event) (h : CurrentOpening) (e : Event) → IsWorld first (world ++ e ∷ []) → state_after (down first) world ≡ up h → h.shown ≤ length (flat h.acked)
shown-within first world h e legal comes = (shows_all first world h (in-two (down first) world e [] legal).before comes).within

module _ (base : PlainDurable) (setting : Setting) (c : Command) (slip : PlainReceipt) (last : Option PlainReceipt) where
  call-legal : (r : Reply) → (a : IsAnswered base setting c r slip last) → LegalCall a.before (call c r) a.came
  call-legal r a = subst (λ (st : State). IsLegal st (called (call c r) a.came)) a.comes (in-two (down a.first) a.world (called (call c r) a.came) [] a.legal).here

  pub applied-is : (n : ℕ) (o : Outcome) → IsAnswered base setting c (Applied n o) slip last → n ≡ length slip.front
  applied-is n o a = last-number a.before c slip n a.change (legal-applied a.before c n o a.came.failed (call-legal (Applied n o) a).reply)

  pub stored-is : (n : ℕ) (o : Outcome) → IsAnswered base setting c (Stored n o) slip last → n ≡ length slip.front
  stored-is n o a = last-number a.before c slip n a.change (stored-step a.before c n o a.came.failed (call-legal (Stored n o) a).reply).number

  pub applied-acked : (n : ℕ) (o : Outcome) → IsAnswered base setting c (Applied n o) slip last → n ≡ slip.acked
  applied-acked n o a = last-acked a.before c slip n a.change a.acked (legal-applied a.before c n o a.came.failed (call-legal (Applied n o) a).reply)

  pub stored-acked : (n : ℕ) (o : Outcome) → IsAnswered base setting c (Stored n o) slip last → n ≡ slip.acked
  stored-acked n o a = last-acked a.before c slip n a.change a.acked (stored-step a.before c n o a.came.failed (call-legal (Stored n o) a).reply).number

  -- what was acknowledged at the reply of the receipt that was handed in still is acknowledged
  pub still-acked : (r : Reply) (handed : PlainReceipt) → last ≡ Some handed → IsAnswered base setting c r slip last → handed.acked ≤ slip.acked
  still-acked r handed is a =
      let before : handed.acked ≤ length (flat a.before.acked) = (a.follows handed is).1 in
      omega (arith, before, a.acked, more-acked a.before.acked (acked_by r (group_in a.before c)))

  -- and no fewer are shown
  pub still-shown : (r : Reply) (handed : PlainReceipt) → last ≡ Some handed → IsAnswered base setting c r slip last → handed.shown ≤ slip.shown
  still-shown r handed is a =
      let legal : LegalCall a.before (call c r) a.came = call-legal r a in
      let within = shown-within a.first a.world a.before (called (call c r) a.came) a.legal a.comes in
      omega (arith, a.shows handed is, a.shown, legal.shown, shows-more a.before c r a.came.failed legal.reply within)

-- ---- one group under the lock

module _ (base : PlainDurable) (setting : Setting) (old new : WorldBook) (commands : List Command) (answers : Result (List Reported) Refusal) (t : Upshot) (reached : IsReached base setting old)
    (leads : (h : CurrentOpening) → IsAt h old → LeadsGroup h new commands (replies_of answers) t) (folded : IsFolded new) where
  stands-then : StandsFor reached.first new (reached.world ++ called_group commands (replies_of answers) t ∷ [])
  stands-then = stands-on-group reached.first old new reached.world commands (replies_of answers) t reached.stands (leads reached.stands.held reached.stands.at) folded

  -- what a group leads to is reached as well
  pub reached-too : new.base ≡ old.base → new.setting ≡ old.setting → IsReached base setting new
  reached-too same_base same_setting = record {
    base_is = same_base ∙ reached.base_is;
    setting_is = same_setting ∙ reached.setting_is;
    first = reached.first;
    world = reached.world ++ called_group commands (replies_of answers) t ∷ [];
    stands = stands-then;
  }

  pub group-answered : (last : Option PlainReceipt) → ((h : CurrentOpening) → IsAt h old → HasReceipts h (log_in new) commands answers) → HaveShown t.shown answers → TakesUp last old → IsGroupAnswered base setting commands answers last
  group-answered last receipts shown takes =
      let h : CurrentOpening = reached.stands.held in
      let at : IsAt h old = reached.stands.at in
      record {
        first = reached.first;
        world = reached.world;
        before = h;
        came = t;
        comes = reached.stands.comes;
        base_is = sym at.base ∙ reached.base_is;
        setting_is = sym at.setting ∙ reached.setting_is;
        legal = stands-then.legal;
        receipts = subst (λ (l : List PlainChange). HasReceipts h l commands answers) (log-at (heard_group h commands (replies_of answers) t) new (leads h at).at) (receipts h at);
        shown = shown;
        follows = subst (λ (gs : List (List PlainChange)). Follows last (log_of h) (length (flat gs))) at.acked (subst (λ (l : List PlainChange). Follows last l (length (flat old.acked))) (log-at h old at) takes.follows);
        shows = subst (ShowsNoLess last) at.shown takes.shows;
      }

  -- the same where its commands are due what they are due one by one
  pub group-as-alone : (last : Option PlainReceipt) → ((h : CurrentOpening) → IsAt h old → HasReceipts h (log_in new) commands answers) → HaveShown t.shown answers → TakesUp last old
      → ((h : CurrentOpening) → IsAt h old → AreDueAsAlone h commands answers) → IsAnsweredAsAlone base setting commands answers last
  unfolding group-answered
  group-as-alone last receipts shown takes alone = record { group = group-answered last receipts shown takes; in_turn = alone reached.stands.held reached.stands.at }
