-- What one step answers, and that its change keeps within the limits.
use Rattle.std.proofs.Common.{◌≡◌, ℕ, ◌+◌, Bool, true, false, cond, List, [], ◌∷◌, length, refl, sym, ap, ◌∙◌, subst, Option, Some, None, Result, Ok, Err, arith, zero, suc, ◌++◌}
use Rattle.std.specs.{Prelude.{is_some, if◌then◌else◌}, List.AllByRecursion}
use Rattle.pf_ticket.specs.{Replies.{begin_reply, add_reply, define_reply, extend_reply, list_check, commit_check}, declared.{name.RulesetName.RulesetName, refusal.TicketRefusal.TicketRefusal, ticket.Ticket.Ticket, ticket.TicketRange.TicketRange, name.RulesetKind.RulesetKind, name.RulesetKind.TheVariants.Filter, name.RulesetKind.TheVariants.Table, entry.RulesetTicket.RulesetTicket}, Laws.Tickets.{AreGiven, IsFew, IsWithin as AreTicketsWithin}, Mentions.{Mention, gives, switches, after as moved_by}, Names.{filter_at, table_ruleset_at, tickets_from}, NamedTables.PlainDefinedTable, Tickets.{Loaded, PlainTickets, offered_as, loaded, content}}
use Rattle.pf_core.specs.{Durable.Changes.{PlainDurable, PlainChange, commits, acts, removes, expires, verdict, placed, tables_in, applied, voided_by, fits}, History.tickets_in, Laws.Wanted.{unit_is, IsPassed, passed, none-wanted, IsThis, IsNoChange, never-wanted, never-committed, never-there, never-edited, wants_commit, change_by, wants_edit, IsOfStates, of_steps, of_removal, of_tick, IsStateChange, tracks, wants_states, IsWanted, left_is}, declared.{command.Command.Command, durable.change.Item.Item, command.Command.TheVariants.Transact, command.Command.TheVariants.Edit, command.Command.TheVariants.States as OfStates, command.Command.TheVariants.Ask, command.Command.TheVariants.History, command.HistoryCommand.HistoryCommand, command.HistoryCommand.TheVariants.Log, command.HistoryCommand.TheVariants.Publish, durable.verdict.Verdict.Verdict, durable.verdict.Verdict.TheVariants.State as Stateful, durable.verdict.Verdict.TheVariants.Rules as ByRules, command.StateCommand.StateCommand, command.StateCommand.TheVariants.Track, command.StateCommand.TheVariants.Peer, command.StateCommand.TheVariants.Kill as KillState, command.StateCommand.TheVariants.Expire as ExpireStates, command.TableEdit.TableEdit, command.TableEdit.TheVariants.Add as AddTo, command.TableEdit.TheVariants.Delete, command.TableEdit.TheVariants.Set, command.TableEdit.TheVariants.Kill, command.Question.Question, command.Transaction.TheVariants.Begin, command.Transaction.TheVariants.Add, command.Transaction.TheVariants.Define, command.Transaction.TheVariants.Extend, command.Transaction.TheVariants.Commit, command.Transaction.TheVariants.Rollback, reply.Answer.Answer, reply.Outcome.Outcome, reply.Refusal.Refusal, reply.Refusal.TheVariants.Halted, reply.Reply.TheVariants.Answer as Answered, step.Step.Step, step.Step.TheVariants.Done, step.Step.TheVariants.Wants, step.Step.TheVariants.OfHistory}, Commands.{item_of, unless_refused, items, wanting, makes_state, tracked, judge_step, expiry_of, steps_here, states_step, answer_of, step_by, mentioned}, Laws.Durable.{IsWithin, AreFew}, Worlds.{CurrentOpening, history_answer}}
use Rattle.pf_core.proofs.Within.{keeps_within}
use Rattle.pf_table.specs.Tables.{AreEntries}
use Rattle.pf_ticket.proofs.TicketLimits.{begins_give, keeps_the_limits as tickets_keep}
use Rattle.pf_rule.specs.Packets.{PlainPacket}
use Rattle.pf_anchor.specs.declared.verdict.RuleVerdict.{RuleVerdict}
use Rattle.pf_state.specs.{declared.{state.Bound.Bound, state.StateName.StateName}, Flows.flow_of, States.{PlainState, held_at}, Steps.{counts, due_count}}
use Rattle.pf_state.specs.declared.step.StateStep.TheVariants as step
use Rattle.pf_core.specs.declared.reply.Answer.TheVariants as answer
use Rattle.pf_core.specs.declared.reply.Outcome.TheVariants as outcome
use Rattle.pf_anchor.specs.Tables.{PlainPlacedTable}

-- ---- by the step that was answered

-- the transactions stay within the limits, and the tickets in the reply are those that were given
pub record AreTicketsGiven (t new : PlainTickets) (ts : List Ticket) : Type 0 where
  pub within : AreTicketsWithin t → AreTicketsWithin new
  pub given : AreGiven (length ts) t new
  pub reported : ts ≡ tickets_from t.epoch t.next (length ts)

pub none-reported : (t new : PlainTickets) → (AreTicketsWithin t → AreTicketsWithin new) → AreGiven 0 t new → AreTicketsGiven t new []
none-reported t new within given = record { within = within; given = given; reported = refl }

length-from : (epoch count n : ℕ) → length (tickets_from epoch count n) ≡ n
length-from epoch count zero = refl
length-from epoch count (suc n) = let rest = length-from epoch (count + 1) n in omega (arith, rest)

begin-reported : (t : PlainTickets) (names : List RulesetName) (a : Answer) → IsPassed (begin_reply t names) (λ range. Ok (Done (answer.Given range))) (Done a) → AreTicketsGiven t (moved_by t (gives names)) (tickets_in (Answered a))
begin-reported t names a s =
    let is : Ok (Done (answer.Given s.value)) ≡ Ok (Done a) = s.step in
    let reported : tickets_in (Answered a) ≡ tickets_from t.epoch t.next (length names) = ap (λ (x : Answer). tickets_in (Answered x)) (let e : answer.Given s.value ≡ a = cc (is) in sym e) ∙ begins_give.reported t names s.value s.passed in
    let number : length (tickets_in (Answered a)) ≡ length names = ap (λ (ts : List Ticket). length ts) reported ∙ length-from t.epoch t.next (length names) in
    record {
      within = tickets_keep.begin t names s.value s.passed;
      given = subst (λ (n : ℕ). AreGiven n t (moved_by t (gives names))) (sym number) (begins_give.begin t names);
      reported = reported ∙ ap (λ (n : ℕ). tickets_from t.epoch t.next n) (sym number);
    }

-- the answer of a step that is only done has no tickets
done-reported : {A : Type 0} (r : Result A TicketRefusal) (a : Answer) → unless_refused r (λ _. Ok (Done answer.Done)) ≡ Ok (Done a) → tickets_in (Answered a) ≡ []
done-reported (Ok x) a h = let is : answer.Done ≡ a = cc (h) in ap (λ (x : Answer). tickets_in (Answered x)) (sym is)
done-reported (Err e) a h = absurd (cc (h))

question-reported : (d : PlainDurable) (q : Question) → tickets_in (Answered (answer_of d q)) ≡ []
question-reported d q = grind arith

-- what wants a change isn't only answered
pub done-is-none : (a : Answer) → IsNoChange (Done a)
done-is-none a e o is = cc (is)

-- a change of states that is only answered says what happens to a packet, or that a name is taken
reported-is : (P : Answer → Type 0) (x a : Answer) → P x → ◌≡◌ {A = Result Step Refusal} (Ok (Done x)) (Ok (Done a)) → P a
reported-is P x a holds h =
    let is : x ≡ a = cc (h) in
    subst P is holds

pub record IsOfPackets (P : Answer → Type 0) : Type 0 where
  pub judged : (v : Verdict) → P (answer.Judged v)
  pub stale : (v : RuleVerdict) → P (answer.Stale v)

make-reported : (P : Answer → Type 0) → IsOfPackets P → (d : PlainDurable) (v : RuleVerdict) (s : PlainState) (stale : Bool) (a : Answer) → (if stale then Ok (Done (answer.Stale v)) else wanting d (acts (step.Insert s ∷ [])) (outcome.Tracked v)) ≡ Ok (Done a) → P a
make-reported P all d v s true a h = reported-is P (answer.Stale v) a (all.stale v) h
make-reported P all d v s false a h = absurd (never-wanted (fits d (acts (step.Insert s ∷ []))) (acts (step.Insert s ∷ [])) (outcome.Tracked v) (Done a) (done-is-none a) h)

tracked-reported : (P : Answer → Type 0) → IsOfPackets P → (d : PlainDurable) (name : StateName) (packet : PlainPacket) (expiry : ℕ) (v : RuleVerdict) (made : Option Bound) (a : Answer) → tracked d name packet expiry v made ≡ Ok (Done a) → P a
tracked-reported P all d name packet expiry v None a h = reported-is P (answer.Judged (ByRules v)) a (all.judged (ByRules v)) h
tracked-reported P all d name packet expiry v (Some b) a h =
    let s : PlainState = (name, record { generation = 0; flow = flow_of packet; bound = b; expiry = expiry }) in
    make-reported P all d v s (is_some (held_at s.0 d.states)) a h

verdict-reported : (P : Answer → Type 0) → IsOfPackets P → (d : PlainDurable) (name : StateName) (packet : PlainPacket) (expiry : ℕ) (v : Verdict) (a : Answer) → judge_step d name packet expiry v ≡ Ok (Done a) → P a
verdict-reported P all d name packet expiry (Stateful s) a h = reported-is P (answer.Judged (Stateful s)) a (all.judged (Stateful s)) h
verdict-reported P all d name packet expiry (ByRules by) a h = tracked-reported P all d name packet expiry by (makes_state d by) a h

pub states-reported : (P : Answer → Type 0) → IsOfPackets P → (d : PlainDurable) (c : StateCommand) (a : Answer) → states_step d c ≡ Ok (Done a) → P a
states-reported P all d (Track name packet until) a h = verdict-reported P all d name packet (expiry_of until) (verdict d packet) a (tracks d name packet until h).step
states-reported P all d (Peer m) a h =
    absurd (never-wanted (fits d (acts (steps_here d m))) (acts (steps_here d m)) (outcome.Peered (counts d.states (steps_here d m))) (Done a) (done-is-none a) h)
states-reported P all d (KillState name) a h = absurd (never-there (is_some (held_at name d.states)) (removes name) outcome.Killed (Done a) (done-is-none a) h)
states-reported P all d (ExpireStates tick) a h = absurd (never-wanted (fits d (expires tick)) (expires tick) (outcome.Expired (due_count d.states tick)) (Done a) (done-is-none a) h)

-- P holds of each answer that a step gives by itself
pub record IsOfSteps (P : Answer → Type 0) : Type 0 where
  pub given : (range : TicketRange) → P (answer.Given range)
  pub done : P answer.Done
  pub judged : (v : Verdict) → P (answer.Judged v)
  pub stale : (v : RuleVerdict) → P (answer.Stale v)
  pub asked : (d : PlainDurable) (q : Question) → P (answer_of d q)

passed-holds : {A : Type 0} (P : Answer → Type 0) (r : Result A TicketRefusal) (reported : A → Answer) (a : Answer) → ((x : A) → P (reported x)) → unless_refused r (λ x. Ok (Done (reported x))) ≡ Ok (Done a) → P a
passed-holds P (Ok x) reported a each h = reported-is P (reported x) a (each x) h
passed-holds P (Err e) reported a each h = absurd (cc (h))

pub step-answers : (P : Answer → Type 0) → IsOfSteps P → (t : PlainTickets) (d : PlainDurable) (c : Command) (a : Answer) → step_by t d c ≡ Ok (Done a) → P a
step-answers P all t d (Transact (Begin names)) a h = passed-holds P (begin_reply t names) (λ range. answer.Given range) a all.given h
step-answers P all t d (Transact (Add p u r)) a h = passed-holds P (add_reply t (filter_at p) u) (λ _. answer.Done) a (λ _. all.done) h
step-answers P all t d (Transact (Define p u name xs)) a h = passed-holds P (define_reply t (table_ruleset_at p) u name xs) (λ _. answer.Done) a (λ _. all.done) h
step-answers P all t d (Transact (Extend p u name xs)) a h = passed-holds P (extend_reply t (table_ruleset_at p) u name xs) (λ _. answer.Done) a (λ _. all.done) h
step-answers P all t d (Transact (Commit entries)) a h = absurd (never-committed (commit_check t entries) d (commits (items (content t) entries)) outcome.Committed (Done a) (done-is-none a) h)
step-answers P all t d (Transact (Rollback entries)) a h = passed-holds P (list_check entries) (λ _. answer.Done) a (λ _. all.done) h
step-answers P all t d (Edit edit) a h = absurd (never-edited d edit (Done a) (done-is-none a) h)
step-answers P all t d (OfStates c) a h = states-reported P (record { judged = all.judged; stale = all.stale }) d c a h
step-answers P all t d (Ask q) a h = reported-is P (answer_of d q) a (all.asked d q) h
step-answers P all t d (History c) a h = absurd (cc (h))

pub answered-reported : (t : PlainTickets) (d : PlainDurable) (c : Command) (a : Answer) → step_by t d c ≡ Ok (Done a) → AreTicketsGiven t (moved_by t (mentioned c)) (tickets_in (Answered a))
answered-reported t d (Transact (Begin names)) a h = begin-reported t names a (passed (begin_reply t names) (λ range. Ok (Done (answer.Given range))) (Done a) h)
answered-reported t d (Transact (Add p u r)) a h =
    let s : IsPassed (add_reply t (filter_at p) u) (λ _. Ok (Done answer.Done)) (Done a) = passed (add_reply t (filter_at p) u) (λ _. Ok (Done answer.Done)) (Done a) h in
    let new : PlainTickets = moved_by t (mentioned (Transact (Add p u r))) in
    subst (AreTicketsGiven t new) (sym (done-reported (add_reply t (filter_at p) u) a h)) (none-reported t new (tickets_keep.add t p u r (unit_is (add_reply t (filter_at p) u) s.value s.passed)) (begins_give.add t (filter_at p) u r))
answered-reported t d (Transact (Define p u name xs)) a h =
    let reply : Result (Unit {0}) TicketRefusal = define_reply t (table_ruleset_at p) u name xs in
    let s : IsPassed reply (λ _. Ok (Done answer.Done)) (Done a) = passed reply (λ _. Ok (Done answer.Done)) (Done a) h in
    let new : PlainTickets = moved_by t (mentioned (Transact (Define p u name xs))) in
    subst (AreTicketsGiven t new) (sym (done-reported reply a h)) (none-reported t new (tickets_keep.define t p u name xs (unit_is reply s.value s.passed)) (begins_give.define t (table_ruleset_at p) u name xs))
answered-reported t d (Transact (Extend p u name xs)) a h =
    let reply : Result (Unit {0}) TicketRefusal = extend_reply t (table_ruleset_at p) u name xs in
    let s : IsPassed reply (λ _. Ok (Done answer.Done)) (Done a) = passed reply (λ _. Ok (Done answer.Done)) (Done a) h in
    let new : PlainTickets = moved_by t (mentioned (Transact (Extend p u name xs))) in
    subst (AreTicketsGiven t new) (sym (done-reported reply a h)) (none-reported t new (tickets_keep.extend t p u name xs (unit_is reply s.value s.passed)) (begins_give.extend t (table_ruleset_at p) u name xs))
answered-reported t d (Transact (Commit entries)) a h = absurd (never-committed (commit_check t entries) d (commits (items (content t) entries)) outcome.Committed (Done a) (done-is-none a) h)
answered-reported t d (Transact (Rollback entries)) a h =
    let new : PlainTickets = moved_by t (mentioned (Transact (Rollback entries))) in
    subst (AreTicketsGiven t new) (sym (done-reported (list_check entries) a h)) (none-reported t new (tickets_keep.rollback t entries) (begins_give.rollback t entries))
answered-reported t d (Edit edit) a h = absurd (never-edited d edit (Done a) (done-is-none a) h)
answered-reported t d (OfStates c) a h = subst (AreTicketsGiven t t) (sym (states-reported (λ (x : Answer). tickets_in (Answered x) ≡ []) (record { judged = λ v. refl; stale = λ v. refl }) d c a h)) (none-reported t t (λ w. w) (record { epoch = refl; next = omega arith }))
answered-reported t d (Ask q) a h =
    let is : answer_of d q ≡ a = cc (h) in
    subst (AreTicketsGiven t t) (sym (question-reported d q) ∙ ap (λ (x : Answer). tickets_in (Answered x)) is) (none-reported t t (λ w. w) (record { epoch = refl; next = omega arith }))
answered-reported t d (History c) a h = absurd (cc (h))

-- what is left to whoever keeps the history gives no tickets, and mentions no ruleset
history-reported : (h : CurrentOpening) (x : HistoryCommand) → tickets_in (Answered (history_answer h x)) ≡ []
history-reported h Log = refl
history-reported h Publish = refl

pub left-reported : (h : CurrentOpening) (t : PlainTickets) (d : PlainDurable) (c : Command) (x : HistoryCommand) (a : Answer) → step_by t d c ≡ Ok (OfHistory x) → a ≡ history_answer h x → AreTicketsGiven t (moved_by t (mentioned c)) (tickets_in (Answered a))
left-reported h t d c x a left is =
    subst (λ (ms : List Mention). AreTicketsGiven t (moved_by t ms) (tickets_in (Answered a))) (ap mentioned (sym (left_is t d c x left)))
    (subst (AreTicketsGiven t t) (sym (ap (λ (y : Answer). tickets_in (Answered y)) is ∙ history-reported h x)) (none-reported t t (λ w. w) (record { epoch = refl; next = omega arith })))

pub applied-reported : (t : PlainTickets) (d : PlainDurable) (c : Command) (e : PlainChange) → IsWanted d c e → AreTicketsGiven t (moved_by t (mentioned c)) []
applied-reported t d c e is =
    subst (λ (ms : List Mention). AreTicketsGiven t (moved_by t ms) []) (sym is.mentions) (none-reported t (moved_by t (switches (voided_by e))) (tickets_keep.commit t (voided_by e)) (begins_give.commit t (voided_by e)))

-- what isn't refused isn't halted
pub unhalted : (halted : Bool) (s : Result Step Refusal) (x : Step) → cond halted (Err Halted) s ≡ Ok x → s ≡ Ok x
unhalted true s x is = absurd (cc (is))
unhalted false s x is = is

-- ---- a change keeps what is kept within the limits

placed-few : (p : List ℕ) (named : List PlainDefinedTable) (rest : List PlainPlacedTable) → AllByRecursion (λ n. AreEntries n.1) named → AllByRecursion (λ t. AreEntries t.1) rest → AllByRecursion (λ t. AreEntries t.1) (placed p named ++ rest)
placed-few p [] rest each few = few
placed-few p (t ∷ ts) rest each few = (each.0, placed-few p ts rest each.1 few)

item-few : (k : RulesetKind) (p : List ℕ) (l : Loaded) (rest : List Item) → IsFew (offered_as k l) → AreFew rest → AreFew (item_of (record { kind = k; path = p }) (offered_as k l) ∷ rest)
item-few Filter p l rest here few = record { rules = (here.rules, few.rules); entries = few.entries }
item-few Table p l rest here few = record { rules = few.rules; entries = placed-few p l.tables (tables_in rest) here.entries few.entries }

items-few : (t : PlainTickets) (entries : List RulesetTicket) → AreTicketsWithin t → AreFew (items (content t) entries)
items-few t [] all = record { rules = tt; entries = tt }
items-few t (e ∷ es) all = item-few e.name.kind e.name.path (loaded t e.name) (items (content t) es) (all.offered e.name) (items-few t es all)

edit-within : (d : PlainDurable) (edit : TableEdit) → fits d (change_by edit) ≡ Ok tt → IsWithin d → IsWithin (applied d (change_by edit))
edit-within d (AddTo p name xs) h w = (keeps_within d w).by_add p name xs h
edit-within d (Delete p name xs) h w = (keeps_within d w).by_delete p name xs
edit-within d (Set p name xs) h w = (keeps_within d w).by_set p name xs h
edit-within d (Kill p name) h w = (keeps_within d w).by_set p name [] h

states-within : (d : PlainDurable) (e : PlainChange) → IsOfStates e → fits d e ≡ Ok tt → IsWithin d → IsWithin (applied d e)
states-within d _ (of_steps steps) h w = (keeps_within d w).by_steps steps h
states-within d _ (of_removal name) h w = (keeps_within d w).by_removal name
states-within d _ (of_tick tick) h w = (keeps_within d w).by_tick tick

pub change-within : (t : PlainTickets) (d : PlainDurable) (c : Command) (e : PlainChange) (o : Outcome) → step_by t d c ≡ Ok (Wants e o) → AreTicketsWithin t → IsWithin d → IsWithin (applied d e)
change-within t d (Transact (Begin names)) e o h all w = absurd (none-wanted (begin_reply t names) (λ range. answer.Given range) e o h)
change-within t d (Transact (Add p u r)) e o h all w = absurd (none-wanted (add_reply t (filter_at p) u) (λ _. answer.Done) e o h)
change-within t d (Transact (Define p u name xs)) e o h all w = absurd (none-wanted (define_reply t (table_ruleset_at p) u name xs) (λ _. answer.Done) e o h)
change-within t d (Transact (Extend p u name xs)) e o h all w = absurd (none-wanted (extend_reply t (table_ruleset_at p) u name xs) (λ _. answer.Done) e o h)
change-within t d (Transact (Commit entries)) e o h all w =
    let this : IsThis d (commits (items (content t) entries)) e = (wants_commit t d entries e o h).this in
    subst (λ (x : PlainChange). IsWithin (applied d x)) this.is ((keeps_within d w).by_commit (items (content t) entries) (items-few t entries all) this.fits)
change-within t d (Transact (Rollback entries)) e o h all w = absurd (none-wanted (list_check entries) (λ _. answer.Done) e o h)
change-within t d (Edit edit) e o h all w =
    let this : IsThis d (change_by edit) e = wants_edit d edit e o h in
    subst (λ (x : PlainChange). IsWithin (applied d x)) this.is (edit-within d edit this.fits w)
change-within t d (OfStates c) e o h all w =
    let change : IsStateChange d e = wants_states d c e o h in
    states-within d e change.is change.fits w
change-within t d (Ask q) e o h all w = absurd (cc (h))
change-within t d (History c) e o h all w = absurd (cc (h))
