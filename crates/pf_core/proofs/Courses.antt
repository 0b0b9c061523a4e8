-- What the commands of a group come to, one after the other.
use Rattle.std.proofs.{Common.{◌≡◌, ℕ, ◌+◌, ◌≤◌, ◌&&◌, Bool, true, false, cond, ◌⊎◌, inl, inr, List, [], ◌∷◌, ◌++◌, length, refl, sym, ap, ◌∙◌, subst, append-nil, Option, Some, None, Result, Ok, Err, arith, le_refl}, lemmas.{Grind.flat_map-append, Iterator.Adapters.position_from-zero, List.{length-append, map-append, map-id}, List.Sums.{fold-append, fold_push}}}
use Rattle.std.specs.{Prelude.{map, flat_map, fold, not, position}, List.{AllByRecursion, position_from}}
use Rattle.pf_addr.specs.Refusing.{unless, refused_at, AreBothPassed, both_passed, not_refused}
use Rattle.pf_ticket.specs.{declared.{name.RulesetName.RulesetName, ticket.Ticket.Ticket}, Laws.Tickets.IsWithin as AreTicketsWithin, Mentions.{Mention, switched, moved, switches, after as moved_by}, Replies.commit_check, Tickets.{PlainTickets, content}}
use Rattle.pf_ticket.proofs.TicketLimits.{begins_give, keeps_the_limits as tickets_keep}
use Rattle.pf_core.specs.{declared.{command.Command.Command, command.Command.TheVariants.Transact, command.Command.TheVariants.Edit, command.Command.TheVariants.States as OfStates, command.Transaction.TheVariants.Commit, reply.Answer.Answer, reply.Outcome.Outcome, reply.Refusal.Refusal, reply.Refusal.TheVariants.Halted, reply.Refusal.TheVariants.BadCount, reply.Refusal.TheVariants.NotGrouped, reply.Refusal.TheVariants.Fault, reply.Refusal.TheVariants.Memory, reply.Reply.Reply, reply.Reply.TheVariants.Answer as Answered, reply.Reply.TheVariants.Refused, step.Step.Step, step.Step.TheVariants.Done, step.Step.TheVariants.Wants, step.Step.TheVariants.OfHistory}, Calls.{call, mentions_of, replies_in, calls_of, mentions_of_group}, Commands.{items, step_by, may_change, may_be_grouped, bad_number, group_words, mentioned}, Durable.Changes.{PlainDurable, PlainChange, commits, applied, after, voided_by}, History.tickets_in, Nexts.next_with, Cores.left_from, Laws.{Durable.IsWithin, Wanted.{never-committed, never-edited, wants_mentions, left_is}, Worlds.hides}, Worlds.{CurrentOpening, flat, log_of, durable_of, is_halted, step_in, reply_to, changes_of, room_for, if_ok, grouped, amid, changes_with, changes_due, replies_due, group_start, group_check, replies_unless, due_group, group_all, is_fault, pending_by_group, shown_by_answer, shown_by, as_stored, GroupStandsIn, LegalReplies}}
use Rattle.pf_core.specs.declared.reply.Outcome.TheVariants as outcome
use Rattle.pf_core.proofs.{Prefixes.flat-append, LongerWorlds.none-of-none, Stepping.{AreTicketsGiven, none-reported, done-is-none, states-reported, unhalted, change-within}}

-- ---- the changes so far

pub flat-grouped : (es : List PlainChange) → flat (grouped es) ≡ es
flat-grouped [] = refl
flat-grouped (e ∷ es) = append-nil (e ∷ es)

-- appending these changes as a group appends them to the changes of all groups
pub flat-with : (gs : List (List PlainChange)) (es : List PlainChange) → flat (gs ++ grouped es) ≡ flat gs ++ es
flat-with gs es = flat-append gs (grouped es) ∙ ap (λ (l : List PlainChange). flat gs ++ l) (flat-grouped es)

pub length-with : (gs : List (List PlainChange)) (es : List PlainChange) → length (flat (gs ++ grouped es)) ≡ length (flat gs) + length es
length-with gs es = ap length (flat-with gs es) ∙ length-append (flat gs) es

-- what is kept in the middle of a group
pub durable-amid : (h : CurrentOpening) (changes : List PlainChange) → durable_of (amid h changes) ≡ after (durable_of h) changes
durable-amid h changes = ap (after h.base) (flat-with h.acked changes) ∙ fold-append applied h.base (flat h.acked) changes

-- the log there, if nothing was left unacknowledged
pub log-amid : (h : CurrentOpening) (changes : List PlainChange) → h.pending ≡ [] → length (log_of (amid h changes)) ≡ length (flat h.acked) + length changes
log-amid h changes none =
    ap (λ (gs : List (List PlainChange)). length (flat ((h.acked ++ grouped changes) ++ gs))) none ∙ ap (λ (gs : List (List PlainChange)). length (flat gs)) (append-nil (h.acked ++ grouped changes)) ∙ length-with h.acked changes

-- the tickets there, after more changes
pub tickets-amid : (h : CurrentOpening) (changes more : List PlainChange) → moved_by (amid h changes).tickets (switches (flat_map voided_by more)) ≡ (amid h (changes ++ more)).tickets
tickets-amid h changes more =
    let before : List RulesetName = flat_map voided_by changes in
    let here : List RulesetName = flat_map voided_by more in
    sym (fold-append moved h.tickets (switches before) (switches here))
    ∙ ap (λ (ms : List Mention). moved_by h.tickets ms) (sym (map-append (λ (n : RulesetName). switched n) before here) ∙ ap switches (sym (flat_map-append voided_by changes more)))

-- ---- the step of a group's command

-- an answer that gives no ticket and shows nothing
pub record IsSilent (a : Answer) : Type 0 where
  pub no_tickets : tickets_in (Answered a) ≡ []
  pub shown : (n : ℕ) → shown_by_answer a n ≡ n
  pub hidden : (hidden : Bool) → hides hidden (Answered a) ≡ hidden

-- What a group's command comes to: such an answer, for a packet that is tracked, with no ruleset mentioned; or a change that is wanted,
-- with the rulesets mentioned whose tickets it voids; or a refusal.
pub data IsOfGroup : Command → Result Step Refusal → Type 0 where
  reported : (c : Command) (a : Answer) → mentioned c ≡ [] → IsSilent a → IsOfGroup c (Ok (Done a))
  wanted : (c : Command) (e : PlainChange) (o : Outcome) → mentioned c ≡ switches (voided_by e) → IsOfGroup c (Ok (Wants e o))
  refused : (c : Command) (e : Refusal) → IsOfGroup c (Err e)

never-asked : (c : Command) → may_be_grouped c ≡ true → may_be_grouped c ≡ false → ⊥
never-asked c may never = cc (may, never)

group-step : (t : PlainTickets) (d : PlainDurable) (c : Command) (s : Result Step Refusal) → may_be_grouped c ≡ true → step_by t d c ≡ s → IsOfGroup c s
group-step t d (Transact (Commit entries)) (Ok (Done a)) may is = absurd (never-committed (commit_check t entries) d (commits (items (content t) entries)) outcome.Committed (Done a) (done-is-none a) is)
group-step t d (Edit edit) (Ok (Done a)) may is = absurd (never-edited d edit (Done a) (done-is-none a) is)
group-step t d (OfStates c) (Ok (Done a)) may is = reported (OfStates c) a refl (states-reported IsSilent (record {
  judged = λ v. record { no_tickets = refl; shown = λ n. refl; hidden = λ b. refl };
  stale = λ v. record { no_tickets = refl; shown = λ n. refl; hidden = λ b. refl };
}) d c a is)
group-step t d c (Ok (Done a)) may is = absurd (cc (may))
group-step t d c (Ok (Wants e o)) may is = wanted c e o (wants_mentions t d c e o is)
group-step t d c (Ok (OfHistory x)) may is = absurd (never-asked c may (ap may_be_grouped (left_is t d c x is)))
group-step t d c (Err e) may is = refused c e

pub step-amid : (a : CurrentOpening) (c : Command) → may_be_grouped c ≡ true → IsOfGroup c (step_in a c)
step-amid a c may = by (may_change c && is_halted a.pending) where
  by : (halted : Bool) → IsOfGroup c (cond halted (Err Halted) (step_by a.tickets (durable_of a) c))
  by true = refused c Halted
  by false = group-step a.tickets (durable_of a) c (step_by a.tickets (durable_of a) c) may refl

pub unhalted-in : (h : CurrentOpening) (c : Command) → h.pending ≡ [] → step_in h c ≡ step_by h.tickets (durable_of h) c
unhalted-in h c none = by (may_change c) (is_halted h.pending) (ap is_halted none) where
  own : Result Step Refusal
  own = step_by h.tickets (durable_of h) c

  by : (changing halted : Bool) → halted ≡ false → cond (changing && halted) (Err Halted) own ≡ own
  by true true is = absurd (cc (is))
  by true false is = refl
  by false halted is = refl

-- the step in the middle of a group, by what is kept there and by the tickets there
pub step-there : (h : CurrentOpening) (changes : List PlainChange) (c : Command) → h.pending ≡ [] → step_in (amid h changes) c ≡ step_by (amid h changes).tickets (after (durable_of h) changes) c
step-there h changes c none = unhalted-in (amid h changes) c none ∙ ap (λ (d : PlainDurable). step_by (amid h changes).tickets d c) (durable-amid h changes)

-- what is prepared there, after one more change
pub left-there : (d : PlainDurable) (changes : List PlainChange) (e : PlainChange) → left_from (next_with (after d changes) (flat_map voided_by changes)) e ≡ next_with (after d (changes ++ e ∷ [])) (flat_map voided_by (changes ++ e ∷ []))
left-there d changes e =
    let names : flat_map voided_by (changes ++ e ∷ []) ≡ flat_map voided_by changes ++ voided_by e =
    flat_map-append voided_by changes (e ∷ []) ∙ ap (λ (ns : List RulesetName). flat_map voided_by changes ++ ns) (append-nil (voided_by e)) in
    ap (λ (k : PlainDurable). next_with k (flat_map voided_by changes ++ voided_by e)) (sym (fold_push applied d changes e)) ∙ ap (λ (ns : List RulesetName). next_with (after d (changes ++ e ∷ [])) ns) (sym names)

-- ---- the reply to it

-- the reply as it is due, or as stored
abbrev pub as_due_or_stored : Bool → Reply → Reply
as_due_or_stored true r = as_stored r
as_due_or_stored false r = r

-- of this many changes all are shown, if nothing is hidden
pub record AreShown (total shown : ℕ) (hidden : Bool) : Type 0 where
  pub within : shown ≤ total
  pub all : hidden ≡ false → shown ≡ total

-- the reply gives no ticket, mentions what the step's change voids, and shows it with all before it, unless it is stored
pub record IsOneMore (total : ℕ) (c : Command) (s : Result Step Refusal) (r : Reply) : Type 0 where
  pub no_tickets : tickets_in r ≡ []
  pub mentions : mentions_of (call c r) ≡ switches (flat_map voided_by (changes_of s))
  pub shown : (n : ℕ) (hidden : Bool) → AreShown total n hidden → AreShown (total + length (changes_of s)) (shown_by r n) (hides hidden r)

still : (total n : ℕ) (hidden : Bool) → AreShown total n hidden → AreShown (total + 0) n hidden
still total n hidden old = let low : n ≤ total = old.within in record { within = omega (arith, low); all = λ none. let same : n ≡ total = old.all none in omega (arith, same) }

answer-more : (total : ℕ) (c : Command) (a : Answer) → mentioned c ≡ [] → IsSilent a → IsOneMore total c (Ok (Done a)) (Answered a)
answer-more total c a unmentioned silent = record {
  no_tickets = silent.no_tickets;
  mentions = unmentioned;
  shown = λ n hidden old.
      subst (λ (m : ℕ). AreShown (total + 0) m (hides hidden (Answered a))) (sym (silent.shown n))
      (subst (λ (b : Bool). AreShown (total + 0) n b) (sym (silent.hidden hidden)) (still total n hidden old));
}

refusal-more : (total : ℕ) (c : Command) (e : Refusal) → IsOneMore total c (Err e) (Refused e)
refusal-more total c e = record { no_tickets = refl; mentions = refl; shown = λ n hidden old. still total n hidden old }

pub one-more : (a : CurrentOpening) (stored : Bool) (c : Command) (s : Result Step Refusal) → IsOfGroup c s → IsOneMore (length (log_of a)) c s (as_due_or_stored stored (reply_to a s))
one-more a true _ _ (reported c x unmentioned silent) = answer-more (length (log_of a)) c x unmentioned silent
one-more a false _ _ (reported c x unmentioned silent) = answer-more (length (log_of a)) c x unmentioned silent
one-more a true _ _ (wanted c e o mentions) = record {
  no_tickets = refl;
  mentions = mentions ∙ ap switches (sym (append-nil (voided_by e)));
  shown = λ n hidden old. let low : n ≤ length (log_of a) = old.within in record { within = omega (arith, low); all = λ none. absurd (cc (none)) };
}
one-more a false _ _ (wanted c e o mentions) = record {
  no_tickets = refl;
  mentions = mentions ∙ ap switches (sym (append-nil (voided_by e)));
  shown = λ n hidden old. record { within = le_refl _; all = λ none. refl };
}
one-more a true _ _ (refused c e) = refusal-more (length (log_of a)) c e
one-more a false _ _ (refused c e) = refusal-more (length (log_of a)) c e

-- ---- one command after the other

-- all of them are of the kinds that a group may have
abbrev pub MayBeGrouped : List Command → Type 0
MayBeGrouped commands = AllByRecursion (λ c. may_be_grouped c ≡ true) commands

-- what the replies come to: they give no ticket, void what the changes void, and show the changes
pub record IsCourse (h : CurrentOpening) (changes : List PlainChange) (commands : List Command) (replies : List Reply) : Type 0 where
  pub no_tickets : flat_map tickets_in replies ≡ []
  pub mentions : moved_by (amid h changes).tickets (flat_map mentions_of (calls_of commands replies)) ≡ (amid h (changes_due h changes commands)).tickets
  pub shown : (n : ℕ) (hidden : Bool) → AreShown (length (flat h.acked) + length changes) n hidden
      → AreShown (length (flat h.acked) + length (changes_due h changes commands)) (fold (λ (m : ℕ) (r : Reply). shown_by r m) n replies) (fold hides hidden replies)

pub course : (h : CurrentOpening) (changes : List PlainChange) (commands : List Command) (stored : Bool) → h.pending ≡ [] → MayBeGrouped commands → IsCourse h changes commands (map (as_due_or_stored stored) (replies_due h changes commands))
course h changes [] stored none may = record { no_tickets = refl; mentions = refl; shown = λ n hidden old. old }
course h changes (c ∷ cs) stored none may =
    let a : CurrentOpening = amid h changes in
    let s : Result Step Refusal = step_in a c in
    let r : Reply = as_due_or_stored stored (reply_to a s) in
    let more : List PlainChange = changes ++ changes_of s in
    let rs : List Reply = map (as_due_or_stored stored) (replies_due h more cs) in
    let here : IsOneMore (length (log_of a)) c s r = one-more a stored c s (step-amid a c may.0) in
    let rest : IsCourse h more cs rs = course h more cs stored none may.1 in
    let log : length (log_of a) ≡ length (flat h.acked) + length changes = log-amid h changes none in
    let long : length more ≡ length changes + length (changes_of s) = length-append changes (changes_of s) in
    let total : length (log_of a) + length (changes_of s) ≡ length (flat h.acked) + length more = omega (arith, log, long) in
    record {
      no_tickets = ap (λ (ts : List Ticket). ts ++ flat_map tickets_in rs) here.no_tickets ∙ rest.no_tickets;
      mentions = fold-append moved a.tickets (mentions_of (call c r)) (flat_map mentions_of (calls_of cs rs))
          ∙ ap (λ (t : PlainTickets). moved_by t (flat_map mentions_of (calls_of cs rs))) (ap (λ (ms : List Mention). moved_by a.tickets ms) here.mentions ∙ tickets-amid h changes (changes_of s))
          ∙ rest.mentions;
      shown = λ n hidden old. rest.shown (shown_by r n) (hides hidden r)
          (subst (λ (k : ℕ). AreShown k (shown_by r n) (hides hidden r)) total (here.shown n hidden (subst (λ (k : ℕ). AreShown k n hidden) (sym log) old)));
    }

-- what is kept stays within the limits
step-within : (h : CurrentOpening) (changes : List PlainChange) (c : Command) → AreTicketsWithin h.tickets → IsWithin (after (durable_of h) changes) → IsWithin (after (durable_of h) (changes_with h changes c))
step-within h changes c tickets within = by (step_in (amid h changes) c) refl where
  a : CurrentOpening
  a = amid h changes

  d : PlainDurable
  d = durable_of h

  by : (s : Result Step Refusal) → step_in a c ≡ s → IsWithin (after d (changes ++ changes_of s))
  by (Ok (Wants e o)) is =
      let own : step_by a.tickets (durable_of a) c ≡ Ok (Wants e o) = unhalted (may_change c && is_halted a.pending) (step_by a.tickets (durable_of a) c) (Wants e o) is in
      let kept : durable_of a ≡ after d changes = durable-amid h changes in
      subst (λ (k : PlainDurable). IsWithin k) (sym (fold_push applied d changes e)) (subst (λ (k : PlainDurable). IsWithin (applied k e)) kept
      (change-within a.tickets (durable_of a) c e o own (tickets_keep.commit h.tickets (flat_map voided_by changes) tickets) (subst (λ (k : PlainDurable). IsWithin k) (sym kept) within)))
  by s is = subst (λ (es : List PlainChange). IsWithin (after d es)) (sym (append-nil changes)) within

pub course-within : (h : CurrentOpening) (changes : List PlainChange) (commands : List Command) → AreTicketsWithin h.tickets → IsWithin (after (durable_of h) changes) → IsWithin (after (durable_of h) (changes_due h changes commands))
course-within h changes [] tickets within = within
course-within h changes (c ∷ cs) tickets within = course-within h (changes_with h changes c) cs tickets (step-within h changes c tickets within)

-- ---- which groups are kept

-- a group that isn't refused whole
pub record IsTaken (h : CurrentOpening) (commands : List Command) : Type 0 where
  pub none : h.pending ≡ []
  pub may : MayBeGrouped commands
  pub room : room_for h (changes_due h [] commands) ≡ Ok tt
  pub group : group_all h commands ≡ grouped (changes_due h [] commands)

pub not-halted : (gs : List (List PlainChange)) → is_halted gs ≡ false → gs ≡ []
not-halted [] is = refl
not-halted (g ∷ gs) is = absurd (cc (is))

none-refused : (why : ℕ → Refusal) (place : Option ℕ) → refused_at why place ≡ Ok tt → place ≡ None
none-refused why None is = refl
none-refused why (Some i) is = absurd (cc (is))

none-unfit : (i : ℕ) (commands : List Command) → position_from (λ (c : Command). not (may_be_grouped c)) i commands ≡ None → MayBeGrouped commands
none-unfit i [] is = tt
none-unfit i (c ∷ cs) is = by (may_be_grouped c) refl is (none-unfit (i + 1) cs) where
  following : Option ℕ
  following = position_from (λ (x : Command). not (may_be_grouped x)) (i + 1) cs

  by : (b : Bool) → may_be_grouped c ≡ b → cond (not b) (Some i) following ≡ None → (following ≡ None → MayBeGrouped cs) → MayBeGrouped (c ∷ cs)
  by true may rest more = (may, more rest)
  by false never rest more = absurd (cc (rest))

pub taken-group : (h : CurrentOpening) (commands : List Command) → group_check h commands ≡ Ok tt → IsTaken h commands
taken-group h commands is =
    let kinds : Option ℕ = position (λ (c : Command). not (may_be_grouped c)) commands in
    let all : AreBothPassed (group_start h commands) (room_for h (changes_due h [] commands)) tt = both_passed (group_start h commands) (room_for h (changes_due h [] commands)) tt is in
    let start : AreBothPassed (unless (is_halted h.pending) Halted) (group_words commands) tt = both_passed (unless (is_halted h.pending) Halted) (group_words commands) tt all.first in
    let words : AreBothPassed (unless (bad_number (length commands)) BadCount) (refused_at (λ i. NotGrouped i) kinds) tt = both_passed (unless (bad_number (length commands)) BadCount) (refused_at (λ i. NotGrouped i) kinds) tt start.second in
    record {
      none = not-halted h.pending (not_refused (is_halted h.pending) Halted start.first);
      may = none-unfit 0 commands (sym (position_from-zero (λ (c : Command). not (may_be_grouped c)) commands) ∙ none-refused (λ i. NotGrouped i) kinds words.second);
      room = all.second;
      group = ap (λ (r : Result (Unit {0}) Refusal). if_ok r (grouped (changes_due h [] commands)) []) is;
    }

pub taken-or-not : (h : CurrentOpening) (commands : List Command) → IsTaken h commands ⊎ (group_all h commands ≡ [])
taken-or-not h commands = by (group_check h commands) refl where
  by : (check : Result (Unit {0}) Refusal) → group_check h commands ≡ check → IsTaken h commands ⊎ (group_all h commands ≡ [])
  by (Ok tt) is = inl (taken-group h commands is)
  by (Err e) is = inr (ap (λ (r : Result (Unit {0}) Refusal). if_ok r (grouped (changes_due h [] commands)) []) is)

-- ---- by the group's replies

-- it is accepted with the replies that are due, or with these as stored
pub record IsAccepted (h : CurrentOpening) (commands : List Command) (replies : List Reply) : Type 0 where
  pub taken : IsTaken h commands
  pub stored : Bool
  pub reported : replies ≡ map (as_due_or_stored stored) (replies_due h [] commands)

pub accepted : (h : CurrentOpening) (commands : List Command) (replies : List Reply) (failed : Bool) → LegalReplies h commands (Ok replies) failed → IsAccepted h commands replies
accepted h commands replies failed legal = by (group_check h commands) refl legal where
  due : List Reply
  due = replies_due h [] commands

  by : (check : Result (Unit {0}) Refusal) → group_check h commands ≡ check → (Ok replies ≡ replies_unless check due) ⊎ GroupStandsIn h commands failed (replies_unless check due) (Ok replies) → IsAccepted h commands replies
  by (Ok tt) is (inl same) = record { taken = taken-group h commands is; stored = false; reported = (let one : replies ≡ due = cc (same) in one) ∙ sym (map-id due) }
  by (Ok tt) is (inr stored) = record { taken = taken-group h commands is; stored = true; reported = stored }
  by (Err e) is (inl same) = absurd (cc (same))
  by (Err e) is (inr none) = absurd none

pub accepted-course : (h : CurrentOpening) (commands : List Command) (replies : List Reply) → IsAccepted h commands replies → IsCourse h [] commands replies
accepted-course h commands replies a = subst (λ (rs : List Reply). IsCourse h [] commands rs) (sym a.reported) (course h [] commands a.stored a.taken.none a.taken.may)

pub group-reported : (h : CurrentOpening) (commands : List Command) (result : Result (List Reply) Refusal) (failed : Bool) → LegalReplies h commands result failed
    → AreTicketsGiven h.tickets (moved_by h.tickets (mentions_of_group commands result)) (flat_map tickets_in (replies_in result))
group-reported h commands (Ok replies) failed legal =
    let k : IsCourse h [] commands replies = accepted-course h commands replies (accepted h commands replies failed legal) in
    let names : List RulesetName = flat_map voided_by (changes_due h [] commands) in
    subst (λ (t : PlainTickets). AreTicketsGiven h.tickets t (flat_map tickets_in replies)) (sym k.mentions) (subst (AreTicketsGiven h.tickets (moved_by h.tickets (switches names))) (sym k.no_tickets)
    (none-reported h.tickets (moved_by h.tickets (switches names)) (tickets_keep.commit h.tickets names) (begins_give.commit h.tickets names)))
group-reported h commands (Err e) failed legal = none-reported h.tickets h.tickets (λ w. w) (record { epoch = refl; next = omega arith })

-- a group gives no ticket
pub group-no_tickets : (h : CurrentOpening) (commands : List Command) (result : Result (List Reply) Refusal) (failed : Bool) → LegalReplies h commands result failed → flat_map tickets_in (replies_in result) ≡ []
group-no_tickets h commands (Ok replies) failed legal = (accepted-course h commands replies (accepted h commands replies failed legal)).no_tickets
group-no_tickets h commands (Err e) failed legal = refl

-- if the device didn't fail, a refusal of the whole leaves nothing
none-kept : (h : CurrentOpening) (commands : List Command) (due : Result (List Reply) Refusal) (e : Refusal) (gs : List (List PlainChange)) → GroupStandsIn h commands false due (Err e) → cond (is_fault e) gs [] ≡ []
none-kept h commands due Memory gs stands = refl
none-kept h commands (Ok replies) Fault gs stands = absurd (cc (stands.0))
none-kept h commands due e gs stands = absurd stands

pub unkept-group : (h : CurrentOpening) (commands : List Command) (e : Refusal) → LegalReplies h commands (Err e) false → pending_by_group (Err e) (group_all h commands) ≡ []
unkept-group h commands e (inr stands) = none-kept h commands (due_group h commands) e (group_all h commands) stands
unkept-group h commands e (inl is) = none-of-none (is_fault e) (group_all h commands) (by (group_check h commands) refl is) where
  by : (check : Result (Unit {0}) Refusal) → group_check h commands ≡ check → Err e ≡ replies_unless check (replies_due h [] commands) → group_all h commands ≡ []
  by (Ok u) checked same = absurd (cc (same))
  by (Err x) checked same = ap (λ (r : Result (Unit {0}) Refusal). if_ok r (grouped (changes_due h [] commands)) []) checked
