-- The change that a command wants can be wanted, and its step keeps the transactions within their limits.
use Rattle.std.proofs.{Common.{◌≡◌, ◌≤◌, inl, ℕ, Bool, true, false, cond, List, [], ◌∷◌, length, Result, Ok, Err, refl, sym, ap, ◌∙◌, subst, arith}, Math.Bool.and-false, lemmas.Bool.Decides.nat_tests, lemmas.List.length-map}
use Rattle.std.specs.{Prelude.{◌&&◌, ◌==◌, not, nat_le}, List.list_all}
use Rattle.pf_core.specs.Refusing.{both_passed, refused_at}
use Rattle.pf_ticket.specs.{declared.{entry.RulesetTicket.RulesetTicket, limits.TheConstants.{ENTRY_LIMIT, OFFERED_TABLE_LIMIT}, name.RulesetKind.RulesetKind, name.RulesetKind.TheVariants.{Filter, Table}, refusal.TicketRefusal.TicketRefusal, refusal.TicketRefusal.TheVariants.{BadCount, Busy}}, Laws.Tickets.{IsFew, IsWithin}, Mentions.after as moved_by, Replies.{bad_count, begin_reply, add_reply, define_reply, extend_reply, list_check, commit_check, busy_in}, Names.{filter_at, table_ruleset_at}, Tickets.{Loaded, PlainTickets, offered_as, loaded, content}}
use Rattle.pf_core.specs.declared.{command.Command.Command, command.Command.TheVariants.{Transact, Edit, States as OfStates, Ask, History}, command.TableEdit.TableEdit, command.TableEdit.TheVariants.{Add as AddTo, Delete, Set, Kill}, command.Transaction.TheVariants.{Begin, Add, Define, Extend, Commit, Rollback}, reply.Answer.Answer, reply.Outcome.Outcome, reply.Refusal.Refusal, reply.Refusal.TheVariants.Halted, reply.Reply.TheVariants.Answer as Answered, step.Step.Step, step.Step.TheVariants.{Done, Wants, OfHistory}}
use Rattle.pf_core.specs.declared.reply.Answer.TheVariants as answer
use Rattle.pf_core.specs.{Commands.{item_of, items, step_by, may_change, mentioned}, Durable.Changes.{PlainDurable, PlainChange, commits}, Laws.Wanted.{none-wanted, wants_commit, change_by, wants_edit, IsOfStates, of_steps, of_removal, of_tick, wants_states}, Refusals.OrMemory, Cores.answered, Worlds.{CurrentOpening, due_at}}
use Rattle.pf_core.proofs.Limits.{legal-reported}
use Rattle.pf_store.specs.{Groups.{can_be_wanted, has_item_form, is_commit}, Rooms.on_device}

-- ---- what is wanted

-- no more tables at a path than were offered
few-tables : (k : RulesetKind) (p : List ℕ) (l : Loaded) → IsFew (offered_as k l) → has_item_form (item_of (record { kind = k; path = p }) (offered_as k l)) ≡ true
few-tables Filter p l few = refl
few-tables Table p l few =
    let tables : length l.tables ≤ OFFERED_TABLE_LIMIT = few.tables in
    grind (arith, nat_tests, tables)

items-few : (t : PlainTickets) (entries : List RulesetTicket) → IsWithin t → list_all has_item_form (items (content t) entries) ≡ true
items-few t [] within = refl
items-few t (e ∷ es) within =
    ap (λ (b : Bool). b && list_all has_item_form (items (content t) es)) (few-tables e.name.kind e.name.path (loaded t e.name) (within.offered e.name)) ∙ items-few t es within

good-count : (n : ℕ) → bad_count n ≡ false → (not (n == 0) && nat_le n ENTRY_LIMIT) ≡ true
good-count n good = grind (arith, nat_tests, good)

counted : (bad : Bool) (rest : Result (Unit {0}) TicketRefusal) → cond bad (Err BadCount) rest ≡ Ok tt → bad ≡ false
counted true rest is = absurd (cc (is))
counted false rest is = refl

-- a commit that isn't refused has no more items than it may have
commit-can : (t : PlainTickets) (entries : List RulesetTicket) → IsWithin t → commit_check t entries ≡ Ok tt → can_be_wanted (commits (items (content t) entries)) ≡ true
commit-can t entries within good =
    let checked : list_check entries ≡ Ok tt = (both_passed (list_check entries) (refused_at (λ i. Busy i) (busy_in t entries)) tt good).first in
    let long : length (items (content t) entries) ≡ length entries = length-map entries (λ (e : RulesetTicket). item_of e.name (content t e.name)) in
    let number : is_commit (items (content t) entries) ≡ true = rw long (good-count (length entries) (counted (bad_count (length entries)) _ checked)) in
    ap (λ (b : Bool). b && list_all has_item_form (items (content t) entries)) number ∙ items-few t entries within

edit-can : (edit : TableEdit) → can_be_wanted (change_by edit) ≡ true
edit-can (AddTo p name xs) = refl
edit-can (Delete p name xs) = refl
edit-can (Set p name xs) = refl
edit-can (Kill p name) = refl

states-can : (e : PlainChange) → IsOfStates e → can_be_wanted e ≡ true
states-can _ (of_steps steps) = refl
states-can _ (of_removal name) = refl
states-can _ (of_tick tick) = refl

pub wanted-can : (t : PlainTickets) (d : PlainDurable) (c : Command) (e : PlainChange) (o : Outcome) → IsWithin t → step_by t d c ≡ Ok (Wants e o) → can_be_wanted e ≡ true
wanted-can t d (Transact (Begin names)) e o within is = absurd (none-wanted (begin_reply t names) (λ range. answer.Given range) e o is)
wanted-can t d (Transact (Add p u r)) e o within is = absurd (none-wanted (add_reply t (filter_at p) u) (λ _. answer.Done) e o is)
wanted-can t d (Transact (Define p u name xs)) e o within is = absurd (none-wanted (define_reply t (table_ruleset_at p) u name xs) (λ _. answer.Done) e o is)
wanted-can t d (Transact (Extend p u name xs)) e o within is = absurd (none-wanted (extend_reply t (table_ruleset_at p) u name xs) (λ _. answer.Done) e o is)
wanted-can t d (Transact (Commit entries)) e o within is =
    let by = wants_commit t d entries e o is in
    subst (λ (x : PlainChange). can_be_wanted x ≡ true) by.this.is (commit-can t entries within by.good)
wanted-can t d (Transact (Rollback entries)) e o within is = absurd (none-wanted (list_check entries) (λ _. answer.Done) e o is)
wanted-can t d (Edit edit) e o within is = subst (λ (x : PlainChange). can_be_wanted x ≡ true) (wants_edit d edit e o is).is (edit-can edit)
wanted-can t d (OfStates c) e o within is = states-can e (wants_states d c e o is).is
wanted-can t d (Ask q) e o within is = absurd (cc (is))
wanted-can t d (History c) e o within is = absurd (cc (is))

-- ---- the limits of what is offered

-- an opening that keeps `d`, with these transactions and no change yet
abbrev pub with_tickets : PlainTickets → PlainDurable → CurrentOpening
with_tickets t d = record { setting = on_device 0 0; base = d; tickets = t; acked = []; pending = []; shown = 0; sights = [] }

answered-within : (t : PlainTickets) (d : PlainDurable) (c : Command) (a : Answer) → step_by t d c ≡ Ok (Done a) → IsWithin t → IsWithin (moved_by t (mentioned c))
answered-within t d c a is =
    let h : CurrentOpening = with_tickets t d in
    (legal-reported h c (Answered a) false (inl (sym (ap (λ (b : Bool). due_at h (cond b (Err Halted) (step_by t d c))) (and-false (may_change c)) ∙ ap (due_at h) is)))).within

-- whatever the step's result is
pub stepped-within : (t : PlainTickets) (d : PlainDurable) (c : Command) (takes : Bool) (r : Result Step Refusal) → OrMemory takes r (step_by t d c) → IsWithin t → IsWithin (answered t c r)
stepped-within t d c takes (Ok (Done a)) steps within = answered-within t d c a (sym (steps.0 (λ m. cc (m)))) within
stepped-within t d c takes (Ok (Wants e o)) steps within = within
stepped-within t d c takes (Ok (OfHistory x)) steps within = within
stepped-within t d c takes (Err e) steps within = within
