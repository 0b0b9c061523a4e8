-- A group of commands of a Book, for each way that it can end.
use Rattle.std.proofs.{Common.{◌≡◌, ◌≢◌, inl, inr, Option, None, Some, ℕ, ◌+◌, ◌<◌, ◌≤◌, Bool, true, false, cond, List, [], ◌∷◌, ◌++◌, length, take, Result, Ok, Err, refl, sym, ap, ◌∙◌, subst, append-nil, le_refl, arith}, lemmas.{Bool.Decides.nat_tests, List.{length-append, map-id}}}
use Rattle.std.specs.Prelude.{IfOk, ◌&&◌, ◌==◌, flat_map, fold, map, nat_le, nat_lt, not, position}
use Rattle.pf_core.specs.Refusing.{and_then, unless, refused_at, AreBothPassed, both_passed, not_refused}
use Rattle.pf_ticket.specs.{Tickets.PlainTickets, Mentions.{after as moved_by, switches}}
use Rattle.pf_core.specs.declared.{command.Command.Command, group.TheConstants.GROUP_LIMIT, reply.Refusal.Refusal, reply.Refusal.TheVariants.{Halted, BadCount, NotGrouped, HistoryFull, Full, Fault, Memory}, reply.Reply.Reply, step.Step.Step, step.Step.TheVariants.{Wants}}
use Rattle.pf_core.specs.{Commands.{bad_number, group_words, may_be_grouped}, Durable.Changes.{PlainDurable, PlainChange, after, voided_by}, WorldBooks.{WorldBook, IsFolded, IsAt, LeadsGroup}, Nexts.PlainNext, Cores.PlainCore, Worlds.{Setting, CurrentOpening, down, grouping, Upshot, upshot, flat, log_of, is_halted, is_fault, step_in, reply_to, changes_of, room_for, grouped, amid, changes_with, changes_due, replies_due, group_start, group_check, replies_unless, due_group, group_all, kept_groups, shown_by, as_stored, GroupStandsIn, LegalReplies}}
use Rattle.pf_core.proofs.{Courses.{not-halted, durable-amid, length-with, log-amid, IsOfGroup, reported, wanted, refused, step-amid, MayBeGrouped, IsTaken, taken-group, as_due_or_stored, IsAccepted, accepted}, GroupLeads.{IsShownSo, shown-due, shown-stored, refused-group-leads, fault-group-leads, kept-group-leads}, Groups.rooms-found}
use Rattle.pf_store.specs.Stores.{Holds, HoldsEither}
use Rattle.pf_disk.specs.declared.disk.Disk.{Ghosts}
use Rattle.pf_book.specs.{Books.{PlainBook, world_book, BookHasRoom, HoldsLeft, IsLeft, IsMore, KeepsOpening, IsPending, AreKept, AreNumbered, StaysUnlessAnyKept, UsesDevice, is_fault_result, left_together, shows_all, reported_after}, Courses.{AreReady, IsCalm, IsPlanned, KeepsTogether, ready_of}, Groups.{IsGroupCall, IsGroupOf}}
use Rattle.pf_book.proofs.{Calling.{by-world, durable-is, fault-flag, log-acked, front-left, not-more, own}, Coursing.{none-ready, ready-some, well}, HistoryGroups.{grouped-some}, Openable.{uses-as, uses-still, uses-reported}}

-- ---- a calm opening

-- the opening of a world book with nothing pending
pub calm : (h : CurrentOpening) (b : WorldBook) → IsAt h b → IsFolded b → b.pending ≡ [] → IsCalm h b.whole (length (flat b.acked))
calm h b at folded none = record {
  tickets = sym at.tickets;
  durable = sym (durable-is h b at folded);
  number = ap (λ (gs : List (List PlainChange)). length (flat gs)) (sym at.acked);
  none = sym at.pending ∙ none;
}

-- the device didn't fail
calm-group : (h : CurrentOpening) (new : WorldBook) (commands : List Command) (result : Result (List Reply) Refusal) (shown : ℕ) (failed : Bool) → failed ≡ false → LeadsGroup h new commands result (upshot shown false) → LeadsGroup h new commands result (upshot shown failed)
calm-group h new commands result shown failed is leads = subst (λ (x : Bool). LeadsGroup h new commands result (upshot shown x)) (sym is) leads

-- ---- numbers

number-step : (stored : Bool) (a : CurrentOpening) (s : Result Step Refusal) (n m : ℕ) (rest : List Reply) → length (log_of a) ≡ n → AreNumbered rest (n + length (changes_of s)) m → AreNumbered (as_due_or_stored stored (reply_to a s) ∷ rest) n m
number-step true a (Ok (Wants e o)) n m rest is all = (ap (λ (k : ℕ). k + 1) is, all)
number-step false a (Ok (Wants e o)) n m rest is all = (ap (λ (k : ℕ). k + 1) is, all)
number-step true a s n m rest is all = subst (λ (k : ℕ). AreNumbered rest k m) (omega arith) all
number-step false a s n m rest is all = subst (λ (k : ℕ). AreNumbered rest k m) (omega arith) all

-- the numbers of the due replies go on from what was acknowledged
pub numbers : (h : CurrentOpening) (changes : List PlainChange) (commands : List Command) (stored : Bool) → h.pending ≡ []
    → AreNumbered (map (as_due_or_stored stored) (replies_due h changes commands)) (length (flat h.acked) + length changes) (length (flat h.acked) + length (changes_due h changes commands))
numbers h changes [] stored none = refl
numbers h changes (c ∷ cs) stored none =
    let a : CurrentOpening = amid h changes in
    let s : Result Step Refusal = step_in a c in
    let more : List PlainChange = changes ++ changes_of s in
    let n : ℕ = length (flat h.acked) + length changes in
    let m : ℕ = length (flat h.acked) + length (changes_due h more cs) in
    let rest : List Reply = map (as_due_or_stored stored) (replies_due h more cs) in
    let on : length (flat h.acked) + length more ≡ n + length (changes_of s) = omega (arith, length-append changes (changes_of s)) in
    number-step stored a s n m rest (log-amid h changes none) (subst (λ (k : ℕ). AreNumbered rest k m) on (numbers h more cs stored none))

-- ---- no changes

grows : (h : CurrentOpening) (changes : List PlainChange) (commands : List Command) → length changes ≤ length (changes_due h changes commands)
grows h changes [] = le_refl _
grows h changes (c ∷ cs) = omega (arith, grows h (changes_with h changes c) cs, length-append changes (changes_of (step_in (amid h changes) c)))

silent-step : (a : CurrentOpening) (c : Command) (s : Result Step Refusal) (n : ℕ) → IsOfGroup c s → length (changes_of s) ≡ 0 → shown_by (reply_to a s) n ≡ n
silent-step a _ _ n (reported c x unmentioned silent) nothing = silent.shown n
silent-step a _ _ n (wanted c e o mentions) nothing = absurd (omega (arith, nothing))
silent-step a _ _ n (refused c e) nothing = refl

-- replies that keep no change show nothing
silent-due : (h : CurrentOpening) (changes : List PlainChange) (n : ℕ) (commands : List Command) → MayBeGrouped commands → length (changes_due h changes commands) ≡ length changes
    → fold (λ (m : ℕ) (r : Reply). shown_by r m) n (replies_due h changes commands) ≡ n
silent-due h changes n [] may nothing = refl
silent-due h changes n (c ∷ cs) may nothing =
    let a : CurrentOpening = amid h changes in
    let s : Result Step Refusal = step_in a c in
    let more : List PlainChange = changes ++ changes_of s in
    let long : length more ≡ length changes + length (changes_of s) = length-append changes (changes_of s) in
    let low : length more ≤ length (changes_due h more cs) = grows h more cs in
    let same : length (changes_due h more cs) ≡ length changes = nothing in
    ap (λ (m : ℕ). fold (λ (k : ℕ) (r : Reply). shown_by r k) m (replies_due h more cs)) (silent-step a c s n (step-amid a c may.0) (omega (arith, long, low, same)))
    ∙ silent-due h more n cs may.1 (omega (arith, long, low, same))

-- ---- room

past-limit : (h : CurrentOpening) (es : List PlainChange) → 0 < length es → nat_lt h.setting.limit (length (log_of h) + length es) ≡ true → room_for h es ≡ Err HistoryFull
past-limit h [] some full = absurd (omega (arith, some))
past-limit h (e ∷ es) some full = ap (λ (b : Bool). cond b (Err HistoryFull) (cond (h.setting.is_full h.base h.acked (e ∷ es)) (Err Full) (Ok tt))) full

past-device : (h : CurrentOpening) (es : List PlainChange) → 0 < length es → nat_lt h.setting.limit (length (log_of h) + length es) ≡ false → h.setting.is_full h.base h.acked es ≡ true → room_for h es ≡ Err Full
past-device h [] some few full = absurd (omega (arith, some))
past-device h (e ∷ es) some few full =
    ap (λ (b : Bool). cond b (Err HistoryFull) (cond (h.setting.is_full h.base h.acked (e ∷ es)) (Err Full) (Ok tt))) few ∙ ap (λ (b : Bool). cond b (Err Full) (Ok tt)) full

take-grouped : (es : List PlainChange) → take 1 (grouped es) ≡ grouped es
take-grouped [] = refl
take-grouped (e ∷ es) = refl

-- ---- where it leads

-- the refusal of a group before its commands are run, if any
abbrev pub begins : WorldBook → List Command → Result (Unit {0}) Refusal
begins b commands = and_then (unless (is_halted b.pending) Halted) (group_words commands)

pub record IsBegun (b : WorldBook) (commands : List Command) : Type 0 where
  pub none : b.pending ≡ []
  pub words : group_words commands ≡ Ok tt

pub begun-by : (b : WorldBook) (commands : List Command) → Ok tt ≡ begins b commands → IsBegun b commands
begun-by b commands is =
    let both : AreBothPassed (unless (is_halted b.pending) Halted) (group_words commands) tt = both_passed (unless (is_halted b.pending) Halted) (group_words commands) tt (sym is) in
    record { none = not-halted b.pending (not_refused (is_halted b.pending) Halted both.first); words = both.second }

-- such a refusal leaves all as it is
pub begin-leads : (h : CurrentOpening) (b : WorldBook) (commands : List Command) (e : Refusal) → IsAt h b → Err e ≡ begins b commands → LeadsGroup h b commands (Err e) (upshot b.shown false)
begin-leads h b commands e at is =
    let start : group_start h commands ≡ Err e = ap (λ (gs : List (List PlainChange)). and_then (unless (is_halted gs) Halted) (group_words commands)) (sym at.pending) ∙ sym is in
    let due : due_group h commands ≡ Err e = ap (λ (r : Result (Unit {0}) Refusal). replies_unless (and_then r (room_for h (changes_due h [] commands))) (replies_due h [] commands)) start in
    refused-group-leads h b b commands e (inl (sym due)) refl at

kinds-calm : (place : Option ℕ) (e : Refusal) → Err e ≡ refused_at (λ i. NotGrouped i) place → is_fault e ≡ false
kinds-calm None e is = absurd (cc (is))
kinds-calm (Some i) e is = let same : e ≡ NotGrouped i = cc (is) in ap is_fault same

begin-by : (halted bad : Bool) (rest : Result (Unit {0}) Refusal) (e : Refusal) → (Err e ≡ rest → is_fault e ≡ false) → Err e ≡ and_then (unless halted Halted) (and_then (unless bad BadCount) rest) → is_fault e ≡ false
begin-by true bad rest e calm is = let same : e ≡ Halted = cc (is) in ap is_fault same
begin-by false true rest e calm is = let same : e ≡ BadCount = cc (is) in ap is_fault same
begin-by false false rest e calm is = calm is

-- and is no fault
pub begin-calm : (b : WorldBook) (commands : List Command) (e : Refusal) → Err e ≡ begins b commands → is_fault e ≡ false
begin-calm b commands e is =
    let kinds : Option ℕ = position (λ (c : Command). not (may_be_grouped c)) commands in
    begin-by (is_halted b.pending) (bad_number (length commands)) (refused_at (λ i. NotGrouped i) kinds) e (kinds-calm kinds e) is

module _ (h : CurrentOpening) (b : WorldBook) (commands : List Command) (at : IsAt h b) (none : b.pending ≡ []) where
  pub calm-none : h.pending ≡ []
  calm-none = sym at.pending ∙ none

  pub start-is : group_start h commands ≡ group_words commands
  start-is = ap (λ (gs : List (List PlainChange)). and_then (unless (is_halted gs) Halted) (group_words commands)) calm-none

  -- or memory runs out after those checks
  pub memory-refuses : group_words commands ≡ Ok tt → LeadsGroup h b commands (Err Memory) (upshot b.shown false)
  memory-refuses words = refused-group-leads h b b commands Memory (inr (start-is ∙ words)) refl at

module _ (h : CurrentOpening) (b : WorldBook) (commands : List Command) (at : IsAt h b) (none : b.pending ≡ []) (words : group_words commands ≡ Ok tt) where
  abbrev due : List Reply
  due = replies_due h [] commands

  abbrev es : List PlainChange
  es = changes_due h [] commands

  start : group_start h commands ≡ Ok tt
  start = start-is h b commands at none ∙ words

  checked : group_check h commands ≡ room_for h es
  checked = ap (λ (r : Result (Unit {0}) Refusal). and_then r (room_for h es)) start

  log : length (log_of h) ≡ length (flat b.acked)
  log = log-acked h b at none

  limit : b.setting.limit ≡ h.setting.limit
  limit = ap (λ (s : Setting). s.limit) at.setting

  full-is : h.setting.is_full h.base h.acked es ≡ b.setting.is_full b.base b.acked es
  full-is = ap (λ (s : Setting). s.is_full h.base h.acked es) (sym at.setting) ∙ ap (λ (k : PlainDurable). b.setting.is_full k h.acked es) (sym at.base)
      ∙ ap (λ (l : List (List PlainChange)). b.setting.is_full b.base l es) (sym at.acked)

  found : BookHasRoom b es → group_check h commands ≡ Ok tt
  found room = checked ∙ rooms-found h es (omega (arith, room.few, log, limit)) (full-is ∙ room.device)

  taken : BookHasRoom b es → IsTaken h commands
  taken room = taken-group h commands (found room)

  due-ok : group_check h commands ≡ Ok tt → due_group h commands ≡ Ok due
  due-ok is = ap (λ (r : Result (Unit {0}) Refusal). replies_unless r due) is

  legal-due : group_check h commands ≡ Ok tt → LegalReplies h commands (Ok (map (as_due_or_stored false) due)) false
  legal-due is = inl (ap Ok (map-id due) ∙ sym (due-ok is))

  -- no command wants a change
  pub unchanged-leads : es ≡ [] → LeadsGroup h b commands (Ok due) (upshot b.shown false)
  unchanged-leads nothing =
      let check : group_check h commands ≡ Ok tt = checked ∙ ap (room_for h) nothing in
      let t : IsTaken h commands = taken-group h commands check in
      let still : fold (λ (m : ℕ) (r : Reply). shown_by r m) h.shown due ≡ h.shown = silent-due h [] h.shown commands t.may (ap length nothing) in
      let shown : b.shown ≡ fold (λ (m : ℕ) (r : Reply). shown_by r m) h.shown (map (as_due_or_stored false) due) =
      at.shown ∙ sym still ∙ ap (fold (λ (m : ℕ) (r : Reply). shown_by r m) h.shown) (sym (map-id due)) in
      let moved : b.whole.tickets ≡ (amid h es).tickets = at.tickets ∙ ap (λ (l : List PlainChange). (amid h l).tickets) (sym nothing) in
      let all : LeadsGroup h (record b { whole = b.whole; acked = b.acked ++ grouped es; shown = b.shown; published = b.published }) commands (Ok (map (as_due_or_stored false) due)) (upshot b.shown false) =
      kept-group-leads h b b.whole b.published b.shown false commands t (legal-due check) moved shown at in
      subst (λ (rs : List Reply). LeadsGroup h b commands (Ok rs) (upshot b.shown false)) (map-id due) (record {
        legal = all.legal;
        at = record {
          base = all.at.base;
          tickets = all.at.tickets;
          acked = sym (append-nil b.acked) ∙ ap (λ (l : List PlainChange). b.acked ++ grouped l) (sym nothing) ∙ all.at.acked;
          pending = all.at.pending;
          shown = all.at.shown;
          setting = all.at.setting;
        };
      })

  -- the changes were kept
  kept-leads : (new kept : WorldBook) (stored : Bool) → (more : IsMore b kept es) → new.base ≡ kept.base → new.whole ≡ kept.whole → new.acked ≡ kept.acked → new.pending ≡ kept.pending → new.setting ≡ kept.setting
      → LegalReplies h commands (Ok (map (as_due_or_stored stored) due)) false → new.shown ≡ fold (λ (m : ℕ) (r : Reply). shown_by r m) h.shown (map (as_due_or_stored stored) due)
      → LeadsGroup h new commands (Ok (map (as_due_or_stored stored) due)) (upshot new.shown false)
  kept-leads new kept stored more base whole acked pending setting legal shown =
      let moved : kept.whole.tickets ≡ (amid h es).tickets = more.tickets ∙ ap (λ (o : PlainTickets). moved_by o (switches (flat_map voided_by es))) at.tickets in
      let all : LeadsGroup h (record b { whole = kept.whole; acked = b.acked ++ grouped es; shown = new.shown; published = new.published }) commands (Ok (map (as_due_or_stored stored) due)) (upshot new.shown false) =
      kept-group-leads h b kept.whole new.published new.shown stored commands (taken more.room) legal moved shown at in
      record {
        legal = all.legal;
        at = record {
          base = base ∙ more.base ∙ all.at.base;
          tickets = ap (λ (w : PlainCore). w.tickets) whole ∙ all.at.tickets;
          acked = acked ∙ more.acked ∙ all.at.acked;
          pending = pending ∙ more.pending ∙ all.at.pending;
          shown = all.at.shown;
          setting = setting ∙ more.setting ∙ all.at.setting;
        };
      }

  -- and all of them are shown
  all-shown : (kept : WorldBook) → 0 < length es → IsMore b kept es → length (flat kept.acked) ≡ fold (λ (m : ℕ) (r : Reply). shown_by r m) h.shown (map (as_due_or_stored false) due)
  all-shown kept some more =
      let total : length (flat kept.acked) ≡ length (flat h.acked) + length es =
      ap (λ (gs : List (List PlainChange)). length (flat gs)) (more.acked ∙ ap (λ (gs : List (List PlainChange)). gs ++ grouped es) at.acked) ∙ length-with h.acked es in
      total ∙ sym (by (shown-due h h.shown [] h.shown commands (calm-none h b commands at none) (taken more.room).may (inl (refl, refl)))) ∙ ap (fold (λ (m : ℕ) (r : Reply). shown_by r m) h.shown) (sym (map-id due))
    where
      by : IsShownSo h h.shown es (fold (λ (m : ℕ) (r : Reply). shown_by r m) h.shown due) → fold (λ (m : ℕ) (r : Reply). shown_by r m) h.shown due ≡ length (flat h.acked) + length es
      by (inl (nothing, still)) = absurd (omega (arith, some, ap length nothing))
      by (inr is) = is

  -- the device failed: the changes are pending
  faulted : (new : WorldBook) → 0 < length es → IsPending b new es → LeadsGroup h new commands (Err Fault) (upshot new.shown true)
  faulted new some pending =
      let t : IsTaken h commands = taken pending.room in
      let kept : group_all h commands ≢ [] = λ nothing. let one : es ∷ [] ≡ [] = sym (grouped-some es some) ∙ sym t.group ∙ nothing in cc (one) in
      let stands : GroupStandsIn h commands true (due_group h commands) (Err Fault) =
      subst (λ (r : Result (List Reply) Refusal). GroupStandsIn h commands true r (Err Fault)) (sym (due-ok (found pending.room))) (refl, kept) in
      let left : record b { pending = b.pending ++ group_all h commands } ≡ new =
      ap (λ (gs : List (List PlainChange)). record b { pending = gs }) (ap (λ (gs : List (List PlainChange)). gs ++ group_all h commands) none ∙ t.group) ∙ sym pending.same in
      subst (λ (p : WorldBook). LeadsGroup h p commands (Err Fault) (upshot p.shown true)) left (fault-group-leads h b commands (inr stands) at)

  unkept : (e : Refusal) (new : WorldBook) → due_group h commands ≡ Err e → new ≡ b → LeadsGroup h new commands (Err e) (upshot new.shown false)
  unkept e new is same = refused-group-leads h b new commands e (inl (sym is)) same at

  pub all-made-leads : (shown : Result Bool Refusal) (new : WorldBook) → 0 < length es → AreKept shown es b new → LeadsGroup h new commands (reported_after shown due) (upshot new.shown (is_fault_result shown))
  all-made-leads (Ok true) new some (kept, more, is) =
      subst (λ (p : WorldBook). LeadsGroup h p commands (Ok due) (upshot p.shown false)) (sym is)
      (subst (λ (rs : List Reply). LeadsGroup h (shows_all kept) commands (Ok rs) (upshot (length (flat kept.acked)) false)) (map-id due)
      (kept-leads (shows_all kept) kept false more refl refl refl refl refl (legal-due (found more.room)) (all-shown kept some more)))
  all-made-leads (Ok false) new some more =
      let stands : GroupStandsIn h commands false (due_group h commands) (Ok (map as_stored due)) =
      subst (λ (r : Result (List Reply) Refusal). GroupStandsIn h commands false r (Ok (map as_stored due))) (sym (due-ok (found more.room))) refl in
      let still : fold (λ (m : ℕ) (r : Reply). shown_by r m) h.shown (map as_stored due) ≡ h.shown = shown-stored h [] h.shown commands (taken more.room).may in
      kept-leads new new true more refl refl refl refl refl (inr stands) (more.shown ∙ at.shown ∙ sym still)
  all-made-leads (Err Memory) new some (same, room) = refused-group-leads h b new commands Memory (inr start) same at
  all-made-leads (Err Fault) new some pending = faulted new some pending
  all-made-leads (Err HistoryFull) new some (same, full) =
      let past : nat_lt h.setting.limit (length (log_of h) + length es) ≡ true = grind (arith, nat_tests, full, log, limit) in
      unkept HistoryFull new (ap (λ (r : Result (Unit {0}) Refusal). replies_unless r due) (checked ∙ past-limit h es some past)) same
  all-made-leads (Err Full) new some (same, (few, full)) =
      let low : nat_lt h.setting.limit (length (log_of h) + length es) ≡ false = grind (arith, nat_tests, few, log, limit) in
      unkept Full new (ap (λ (r : Result (Unit {0}) Refusal). replies_unless r due) (checked ∙ past-device h es some low (full-is ∙ full))) same
  all-made-leads (Err why) new some made = absurd made.1

  -- what an image holds while the changes are being kept is what some crash leaves
  pub all-left : IsFolded b → BookHasRoom b es → (image : List ℕ) → HoldsEither b.whole.durable (after b.whole.durable es) image → HoldsLeft h (grouping commands) image
  all-left folded room image (inl holds) =
      front-left h b (grouping commands) image at (0, subst (λ (k : PlainDurable). Holds image k) (folded.durable ∙ ap (λ (l : List (List PlainChange)). after b.base (flat l)) (sym (append-nil b.acked))) holds)
  all-left folded room image (inr holds) =
      let kept : kept_groups h (grouping commands) 1 ≡ h.acked ++ grouped es =
      ap (λ (l : List (List PlainChange)). h.acked ++ take 1 (l ++ group_all h commands)) (calm-none h b commands at none)
      ∙ ap (λ (l : List (List PlainChange)). h.acked ++ take 1 l) (taken room).group ∙ ap (λ (l : List (List PlainChange)). h.acked ++ l) (take-grouped es) in (
        after b.whole.durable es,
        holds,
        (1, ap (λ (k : PlainDurable). down k) (ap (λ (l : List (List PlainChange)). after h.base (flat l)) kept ∙ durable-amid h es ∙ ap (λ (k : PlainDurable). after k es) (sym (durable-is h b at folded)))),
      )

-- ---- by what the commands came to

-- the changes of a group can be kept together
more-left : (d : PlainDurable) (es : List PlainChange) (n : PlainNext) → Some n ≡ ready_of d es → n ≡ left_together d es
more-left d [] n is = absurd (cc (is))
more-left d (e ∷ es) n is = cc (is)

are-few : (n : ℕ) → 0 < n → n ≤ GROUP_LIMIT → (not (n == 0) && nat_le n GROUP_LIMIT) ≡ true
are-few n some few = grind (arith, nat_tests, some, few)

module _ {b : WorldBook} {commands : List Command} {due : List Reply} {es : List PlainChange} {next : PlainNext} (plan : IsPlanned b commands due es (Some next)) where
  pub some-planned : 0 < length es
  some-planned = ready-some b.whole.durable es next plan.course.next

  pub ready : AreReady b es next
  ready = record {
    none = plan.none;
    left_is = more-left b.whole.durable es next plan.course.next;
    fit = plan.course.fit;
    wanted = plan.course.wanted;
    group = are-few (length es) some-planned (omega (arith, plan.course.few, (well commands plan.words).few));
  }

module _ {b : WorldBook} {commands : List Command} {due : List Reply} {es : List PlainChange} {left : Option PlainNext} (plan : IsPlanned b commands due es left) (h : CurrentOpening) (at : IsAt h b) where
  pub due-is : due ≡ replies_due h [] commands
  due-is = plan.course.replies h (calm h b at plan.folded plan.none)

  pub changes-are : es ≡ changes_due h [] commands
  changes-are = plan.course.changes h (calm h b at plan.folded plan.none)

module _ {D : Type 0} (now new : PlainBook D) (commands : List Command) (due : List Reply) (es : List PlainChange) where
  longer : (kept : WorldBook) → IsMore (world_book now) kept es → 0 < length es → kept.acked ≡ now.acked → ⊥
  longer kept more some was = omega (arith, some, ap (λ (gs : List (List PlainChange)). length (flat gs)) more.acked, length-with now.acked es, ap (λ (gs : List (List PlainChange)). length (flat gs)) was)

  -- what a kept group leaves, and what a refused one leaves
  made-stays : {device : Ghosts D} (shown : Result Bool Refusal) → 0 < length es → KeepsTogether device now new es shown → StaysUnlessAnyKept (reported_after shown due) now new
  made-stays (Ok true) some made = λ same. absurd (longer made.kept.0 made.kept.1 some (sym (ap (λ (p : WorldBook). p.acked) made.kept.2) ∙ same))
  made-stays (Ok false) some made = λ same. absurd (longer (world_book new) made.kept some same)
  made-stays (Err Fault) some made = record {
    same = λ is. absurd (cc (is));
    pending = λ is. (es, made.kept.same ∙ ap (λ (gs : List (List PlainChange)). record (world_book now) { pending = gs }) (grouped-some es some));
  }
  made-stays (Err why) some made = record { same = λ is. (made.kept.0, made.still why refl refl); pending = λ is. absurd (cc (is)) }

  -- it is still the same opening
  made-opening : (shown : Result Bool Refusal) → AreKept shown es (world_book now) (world_book new) → KeepsOpening now new
  made-opening (Ok true) (kept, more, is) = by-world now new (shows_all kept) is more.base more.setting
  made-opening (Ok false) more = record { base = more.base; setting = more.setting }
  made-opening (Err Fault) pending = by-world now new (record (world_book now) { pending = grouped es }) pending.same refl refl
  made-opening (Err why) made = by-world now new (world_book now) made.0 refl refl

  -- while the changes are kept or refused, each image holds what some crash leaves
  module _ {device : Ghosts D} {next : PlainNext} (plan : IsPlanned (world_book now) commands due es (Some next)) (quiet : UsesDevice device false now now (IsLeft (world_book now) (grouping commands))) where
    kept-group : BookHasRoom (world_book now) es → {failed : Bool} → UsesDevice device failed now new (HoldsEither now.whole.durable (after now.whole.durable es)) → UsesDevice device failed now new (IsLeft (world_book now) (grouping commands))
    kept-group room uses = uses-as {Q = IsLeft (world_book now) (grouping commands)} uses (λ image holds. record {
      left = λ h at. all-left h (world_book now) commands at plan.none plan.words plan.folded (subst (BookHasRoom (world_book now)) (changes-are plan h at) room) image
          (subst (λ (xs : List PlainChange). HoldsEither now.whole.durable (after now.whole.durable xs) image) (changes-are plan h at) holds);
    })

    made-uses : (shown : Result Bool Refusal) → KeepsTogether device now new es shown → UsesDevice device (is_fault_result (reported_after shown due)) now new (IsLeft (world_book now) (grouping commands))
    made-uses (Ok true) made = kept-group made.kept.1.room made.uses
    made-uses (Ok false) made = kept-group made.kept.room made.uses
    made-uses (Err Fault) made = kept-group made.kept.room made.uses
    made-uses (Err why) made = uses-still made.uses (made.still why refl refl) quiet

    -- so it is a group's call
    pub made-call : (shown : Result Bool Refusal) → KeepsTogether device now new es shown → IsGroupCall device now new commands (reported_after shown due)
    made-call shown made = record {
      leads = λ h at.
          let some : 0 < length (changes_due h [] commands) = subst (λ (xs : List PlainChange). 0 < length xs) (changes-are plan h at) (some-planned plan) in
          let kept : AreKept shown (changes_due h [] commands) (world_book now) (world_book new) = subst (λ (xs : List PlainChange). AreKept shown xs (world_book now) (world_book new)) (changes-are plan h at) made.kept in
          subst (λ (x : Bool). LeadsGroup h (world_book new) commands (reported_after shown due) (upshot new.shown x)) (sym (fault-flag (device.fault_count now.disk) (device.fault_count new.disk) (is_fault_result shown) made.uses.run.faults))
          (subst (λ (rs : List Reply). LeadsGroup h (world_book new) commands (reported_after shown rs) (upshot new.shown (is_fault_result shown))) (sym (due-is plan h at))
          (all-made-leads h (world_book now) commands at plan.none plan.words shown (world_book new) some kept));
      uses = made-uses shown made;
      stays = made-stays shown (some-planned plan) made;
      opening = made-opening shown made.kept;
    }

-- if they want no change, nothing is done
module _ {D : Type 0} {device : Ghosts D} (now : PlainBook D) (commands : List Command) (due : List Reply) (es : List PlainChange) (plan : IsPlanned (world_book now) commands due es None)
    (quiet : UsesDevice device false now now (IsLeft (world_book now) (grouping commands))) where
  pub nothing-due : es ≡ []
  nothing-due = none-ready now.whole.durable es plan.course.next

  pub unchanged-call : IsGroupCall device now now commands (Ok due)
  unchanged-call =
      let f : ℕ = device.fault_count now.disk in
      record {
        leads = λ h at. calm-group h (world_book now) commands (Ok due) now.shown (nat_lt f f) (not-more f f (omega arith))
            (subst (λ (rs : List Reply). LeadsGroup h (world_book now) commands (Ok rs) (upshot now.shown false)) (sym (due-is plan h at))
            (unchanged-leads h (world_book now) commands at plan.none plan.words (sym (changes-are plan h at) ∙ nothing-due)));
        uses = quiet;
        stays = λ is. (refl, refl);
        opening = record { base = refl; setting = refl };
      }

-- ---- a group that is refused before anything is kept

pub refused-whole : {D : Type 0} (device : Ghosts D) (old new : PlainBook D) (commands : List Command) (e : Refusal) → new ≡ old → is_fault e ≡ false
    → ((h : CurrentOpening) → IsAt h (world_book old) → LeadsGroup h (world_book old) commands (Err e) (upshot old.shown false))
    → UsesDevice device false old old (IsLeft (world_book old) (grouping commands)) → IsGroupCall device old new commands (Err e)
refused-whole {D} device old new commands e same calm leads quiet =
    let f : ℕ = device.fault_count old.disk in
    subst (λ (l : PlainBook D). IsGroupCall device old l commands (Err e)) (sym same) (record {
      leads = λ h at. calm-group h (world_book old) commands (Err e) old.shown (nat_lt f f) (not-more f f (omega arith)) (leads h at);
      uses = uses-reported calm quiet;
      stays = record { same = λ is. (refl, refl); pending = λ is. absurd (cc (is, calm)) };
      opening = record { base = refl; setting = refl };
    })

-- the same with no receipts
pub refused-of : {D : Type 0} {device : Ghosts D} {old new : PlainBook D} {commands : List Command} {e : Refusal} → IsGroupCall device old new commands (Err e) → IsGroupOf device old new commands (Err e)
refused-of call = record { call = call; receipts = λ h at. tt; shown = tt }

-- ---- the result of a group

-- so its changes are numbered
pub numbered-by : (b new : WorldBook) (commands : List Command) (result : Result (List Reply) Refusal) (t : Upshot) → LeadsGroup (own b) new commands result t → IfOk result (λ replies. AreNumbered replies (length (flat b.acked)) (length (flat new.acked)))
numbered-by b new commands (Err e) t leads = tt
numbered-by b new commands (Ok replies) t leads =
    let h : CurrentOpening = own b in
    let k : IsAccepted h commands replies = accepted h commands replies t.failed leads.legal.reply in
    let es : List PlainChange = changes_due h [] commands in
    let first : length (flat b.acked) + 0 ≡ length (flat b.acked) = omega arith in
    let last : length (flat b.acked) + length es ≡ length (flat new.acked) =
    sym (ap (λ (gs : List (List PlainChange)). length (flat gs)) (leads.at.acked ∙ ap (λ (gs : List (List PlainChange)). b.acked ++ gs) k.taken.group) ∙ length-with b.acked es) in
    subst (λ (rs : List Reply). AreNumbered rs (length (flat b.acked)) (length (flat new.acked))) (sym k.reported)
    (subst (λ (n : ℕ). AreNumbered (map (as_due_or_stored k.stored) (replies_due h [] commands)) n (length (flat new.acked))) first
    (subst (λ (n : ℕ). AreNumbered (map (as_due_or_stored k.stored) (replies_due h [] commands)) (length (flat b.acked) + 0) n) last (numbers h [] commands k.stored k.taken.none)))
