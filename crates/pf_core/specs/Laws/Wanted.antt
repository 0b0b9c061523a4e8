-- What is wanted, and what it mentions: lemmas, also for the crates above.
use Rattle.std.specs.Prelude.{◌≡◌, ℕ, ◌==◌, ◌&&◌, ◌||◌, Bool, true, false, if◌then◌else◌, not, is_some, List, [], ◌∷◌, length, map, nat_lt, Option, Some, None, Result, Ok, Err}
use Rattle.std.proofs.Common.{refl, sym, ap, subst, ◌∙◌}
use Rattle.pf_addr.specs.Refusing.{unless}
use Rattle.pf_table.specs.Edits.{added, additions, deletions, conflict_after}
use Rattle.pf_anchor.specs.declared.{limits.TheConstants.TABLE_COUNT_LIMIT, verdict.RuleVerdict.RuleVerdict}
use Rattle.pf_ticket.specs.{declared.{entry.RulesetTicket.RulesetTicket, name.RulesetKind.RulesetKind, name.RulesetKind.TheVariants.Filter, name.RulesetKind.TheVariants.Table, name.RulesetName.RulesetName, refusal.TicketRefusal.TicketRefusal}, Names.{filter_at, table_ruleset_at, names_of}, Laws.Names.{filter_is, table_is}, Mentions.switches, Replies.{begin_reply, add_reply, define_reply, extend_reply, list_check, commit_check}, Tickets.{PlainTickets, Loaded, offered_as, loaded, content}}
use Rattle.pf_core.specs.{declared.{command.Command.Command, command.Command.TheVariants.Transact, command.Command.TheVariants.Edit, command.Command.TheVariants.States as OfStates, command.Command.TheVariants.Ask, command.Command.TheVariants.History, command.HistoryCommand.HistoryCommand, durable.refusal.ChangeRefusal.ChangeRefusal, durable.verdict.Verdict.Verdict, durable.verdict.Verdict.TheVariants.State as Stateful, durable.verdict.Verdict.TheVariants.Rules as ByRules, command.StateCommand.StateCommand, command.StateCommand.TheVariants.Track, command.StateCommand.TheVariants.Peer, command.StateCommand.TheVariants.Kill as KillState, command.StateCommand.TheVariants.Expire as ExpireStates, command.TableEdit.TableEdit, command.TableEdit.TheVariants.Add as AddTo, command.TableEdit.TheVariants.Delete, command.TableEdit.TheVariants.Set, command.TableEdit.TheVariants.Kill, command.Transaction.TheVariants.Begin, command.Transaction.TheVariants.Add, command.Transaction.TheVariants.Define, command.Transaction.TheVariants.Extend, command.Transaction.TheVariants.Commit, command.Transaction.TheVariants.Rollback, reply.Answer.Answer, reply.Outcome.Outcome, reply.Outcome.TheVariants.Committed, reply.Refusal.Refusal, durable.refusal.ChangeRefusal.TheVariants.TooManyTables, durable.refusal.ChangeRefusal.TheVariants.BadTick, reply.Refusal.TheVariants.BadTick as NoTick, step.Step.Step, step.Step.TheVariants.Done, step.Step.TheVariants.Wants, step.Step.TheVariants.OfHistory}, Commands.{unless_refused, unless_unfit, if_there, is_table, item_of, items, wanting, commit_step, added_of, deleted_of, edit_step, makes_state, tracked, judge_step, is_past, expiry_of, track_step, steps_here, states_step, step_by, mentioned, edits_in_memory, is_done, changes_states_in_memory, takes_memory}, Durable.Changes.{PlainDurable, PlainChange, commits, adds, deletes, sets, acts, removes, expires, entries_at, with_entries, name_of, voided_by, no_conflict, fits, verdict}}
use Rattle.pf_rule.specs.Packets.{PlainPacket}
use Rattle.pf_state.specs.{declared.{state.Bound.Bound, state.StateName.StateName, step.StateStep.StateStep as StateStep}, Flows.flow_of, States.{PlainState, held_at}, Steps.{counts, due_count}}
use Rattle.pf_state.specs.declared.step.StateStep.TheVariants as step
use Rattle.pf_core.specs.declared.reply.Answer.TheVariants as answer
use Rattle.pf_core.specs.declared.reply.Outcome.TheVariants as outcome

-- what the tickets didn't refuse
pub record IsPassed {A B : Type 0} (r : Result A TicketRefusal) (f : A → Result B Refusal) (x : B) : Type 0 where
  pub value : A
  pub passed : r ≡ Ok value
  pub step : f value ≡ Ok x

pub passed : {A B : Type 0} (r : Result A TicketRefusal) (f : A → Result B Refusal) (x : B) → unless_refused r f ≡ Ok x → IsPassed r f x
passed (Ok a) f x h = record { value = a; passed = refl; step = h }
passed (Err e) f x h = absurd (cc (h))

-- what is only answered wants no change
pub none-wanted : {A : Type 0} (r : Result A TicketRefusal) (reported : A → Answer) (e : PlainChange) (o : Outcome) → unless_refused r (λ x. Ok (Done (reported x))) ≡ Ok (Wants e o) → ⊥
none-wanted (Ok x) reported e o h = cc (h)
none-wanted (Err x) reported e o h = cc (h)

-- what fits
pub record IsFit {A : Type 0} (r : Result (Unit {0}) ChangeRefusal) (next : Result A Refusal) (x : A) : Type 0 where
  pub first : r ≡ Ok tt
  pub second : next ≡ Ok x

pub fit : {A : Type 0} (r : Result (Unit {0}) ChangeRefusal) (next : Result A Refusal) (x : A) → unless_unfit r next ≡ Ok x → IsFit r next x
fit (Ok tt) next x h = record { first = refl; second = h }
fit (Err e) next x h = absurd (cc (h))

-- what is there
pub found : {A : Type 0} (b : Bool) (next : Result A Refusal) (x : A) → if_there b next ≡ Ok x → next ≡ Ok x
found true next x h = h
found false next x h = absurd (cc (h))

is-there : {A : Type 0} (b : Bool) (next : Result A Refusal) (x : A) → if_there b next ≡ Ok x → b ≡ true
is-there true next x h = refl
is-there false next x h = absurd (cc (h))

-- the change that is wanted is this one, and it fits
pub record IsThis (d : PlainDurable) (this e : PlainChange) : Type 0 where
  pub fits : fits d this ≡ Ok tt
  pub is : this ≡ e

pub wanted : (d : PlainDurable) (this e : PlainChange) (x o : Outcome) → wanting d this x ≡ Ok (Wants e o) → IsThis d this e
wanted d this e x o h =
    let both : IsFit (fits d this) (Ok (Wants this x)) (Wants e o) = fit (fits d this) (Ok (Wants this x)) (Wants e o) h in
    let same : Ok (Wants this x) ≡ Ok (Wants e o) = both.second in
    record { fits = both.first; is = cc (same) }

-- ---- commits

-- the change is a commit's, of these entries
pub record IsCommitted (t : PlainTickets) (d : PlainDurable) (entries : List RulesetTicket) (e : PlainChange) : Type 0 where
  pub good : commit_check t entries ≡ Ok tt
  pub this : IsThis d (commits (items (content t) entries)) e

pub unit_is : (r : Result (Unit {0}) TicketRefusal) (u : Unit {0}) → r ≡ Ok u → r ≡ Ok tt
unit_is r tt h = h

pub wants_commit : (t : PlainTickets) (d : PlainDurable) (entries : List RulesetTicket) (e : PlainChange) (o : Outcome) → commit_step t d entries ≡ Ok (Wants e o) → IsCommitted t d entries e
wants_commit t d entries e o h =
    let change : PlainChange = commits (items (content t) entries) in
    let good : IsPassed (commit_check t entries) (λ _. wanting d change Committed) (Wants e o) = passed (commit_check t entries) (λ _. wanting d change Committed) (Wants e o) h in
    record { good = unit_is (commit_check t entries) good.value good.passed; this = wanted d change e Committed o good.step }

-- a commit replaces the rulesets that it names
named-item : (k : RulesetKind) (name : RulesetName) (l : Loaded) → k ≡ name.kind → name_of (item_of name (offered_as k l)) ≡ name
named-item Filter name l is = filter_is name is
named-item Table name l is = table_is name is

pub names-items : (t : PlainTickets) (entries : List RulesetTicket) → map name_of (items (content t) entries) ≡ names_of entries
names-items t [] = refl
names-items t (e ∷ es) = ap (λ (n : RulesetName). n ∷ map name_of (items (content t) es)) (named-item e.name.kind e.name (loaded t e.name) refl) ∙ ap (λ (ns : List RulesetName). e.name ∷ ns) (names-items t es)

-- ---- edits of tables

-- the change that an edit wants
abbrev pub change_by : TableEdit → PlainChange
change_by (AddTo p name xs) = adds p name xs
change_by (Delete p name xs) = deletes p name xs
change_by (Set p name xs) = sets p name xs
change_by (Kill p name) = sets p name []

false-then : (b c : Bool) → ((b && false) && c) ≡ false
false-then true c = refl
false-then false c = refl

-- killing a table fits
kill-fits : (d : PlainDurable) (p name : List ℕ) → fits d (sets p name []) ≡ Ok tt
unfolding conflict_after added
kill-fits d p name = ap (λ (b : Bool). unless b TooManyTables) (false-then (length (entries_at d p name) == 0) (nat_lt TABLE_COUNT_LIMIT (length (with_entries d p name []).config.tables)))

pub wants_edit : (d : PlainDurable) (edit : TableEdit) (e : PlainChange) (o : Outcome) → edit_step d edit ≡ Ok (Wants e o) → IsThis d (change_by edit) e
wants_edit d (AddTo p name xs) e o h = wanted d (adds p name xs) e (added_of (additions (entries_at d p name) xs)) o h
wants_edit d (Delete p name xs) e o h =
    let reported : Result Step Refusal = Ok (Wants (deletes p name xs) (deleted_of (deletions (entries_at d p name) xs))) in
    let both : IsFit (no_conflict xs) (if_there (is_table (entries_at d p name)) reported) (Wants e o) = fit (no_conflict xs) (if_there (is_table (entries_at d p name)) reported) (Wants e o) h in
    let same : reported ≡ Ok (Wants e o) = found (is_table (entries_at d p name)) reported (Wants e o) both.second in
    record { fits = both.first; is = cc (same) }
wants_edit d (Set p name xs) e o h = wanted d (sets p name xs) e outcome.Set o h
wants_edit d (Kill p name) e o h =
    let reported : Result Step Refusal = Ok (Wants (sets p name []) outcome.Killed) in
    let same : reported ≡ Ok (Wants e o) = found (is_table (entries_at d p name)) reported (Wants e o) h in
    record { fits = kill-fits d p name; is = cc (same) }

-- ---- changes of states

-- the change is one of states
pub data IsOfStates : PlainChange → Type 0 where
  of_steps : (steps : List StateStep) → IsOfStates (acts steps)
  of_removal : (name : StateName) → IsOfStates (removes name)
  of_tick : (tick : ℕ) → IsOfStates (expires tick)

pub voids_none_of_states : (e : PlainChange) → IsOfStates e → [] ≡ switches (voided_by e)
voids_none_of_states _ (of_steps steps) = refl
voids_none_of_states _ (of_removal name) = refl
voids_none_of_states _ (of_tick tick) = refl

pub record IsStateChange (d : PlainDurable) (e : PlainChange) : Type 0 where
  pub fits : fits d e ≡ Ok tt
  pub is : IsOfStates e

steps-wanted : (d : PlainDurable) (steps : List StateStep) (e : PlainChange) (x o : Outcome) → wanting d (acts steps) x ≡ Ok (Wants e o) → IsStateChange d e
steps-wanted d steps e x o h =
    let this : IsThis d (acts steps) e = wanted d (acts steps) e x o h in
    subst (λ (y : PlainChange). IsStateChange d y) this.is (record { fits = this.fits; is = of_steps steps })

make-wanted : (d : PlainDurable) (v : RuleVerdict) (s : PlainState) (stale : Bool) (e : PlainChange) (o : Outcome) → (if stale then Ok (Done (answer.Stale v)) else wanting d (acts (step.Insert s ∷ [])) (outcome.Tracked v)) ≡ Ok (Wants e o) → IsStateChange d e
make-wanted d v s true e o h = absurd (cc (h))
make-wanted d v s false e o h = steps-wanted d (step.Insert s ∷ []) e (outcome.Tracked v) o h

tracked-wanted : (d : PlainDurable) (name : StateName) (packet : PlainPacket) (expiry : ℕ) (v : RuleVerdict) (made : Option Bound) (e : PlainChange) (o : Outcome) → tracked d name packet expiry v made ≡ Ok (Wants e o) → IsStateChange d e
tracked-wanted d name packet expiry v None e o h = absurd (cc (h))
tracked-wanted d name packet expiry v (Some b) e o h =
    let s : PlainState = (name, record { generation = 0; flow = flow_of packet; bound = b; expiry = expiry }) in
    make-wanted d v s (is_some (held_at s.0 d.states)) e o h

verdict-wanted : (d : PlainDurable) (name : StateName) (packet : PlainPacket) (expiry : ℕ) (v : Verdict) (e : PlainChange) (o : Outcome) → judge_step d name packet expiry v ≡ Ok (Wants e o) → IsStateChange d e
verdict-wanted d name packet expiry (Stateful s) e o h = absurd (cc (h))
verdict-wanted d name packet expiry (ByRules by) e o h = tracked-wanted d name packet expiry by (makes_state d by) e o h

-- a packet that is tracked until a tick that has come is refused
pub record IsAhead {A : Type 0} (past : Bool) (next : Result A Refusal) (x : A) : Type 0 where
  pub ahead : past ≡ false
  pub step : next ≡ Ok x

pub ahead : {A : Type 0} (past : Bool) (next : Result A Refusal) (x : A) → (if past then Err NoTick else next) ≡ Ok x → IsAhead past next x
ahead true next x h = absurd (cc (h))
ahead false next x h = record { ahead = refl; step = h }

pub tracks : {x : Step} (d : PlainDurable) (name : StateName) (packet : PlainPacket) (until : Option ℕ) → track_step d name packet until ≡ Ok x
    → IsAhead (is_past d until) (judge_step d name packet (expiry_of until) (verdict d packet)) x
tracks {x = x} d name packet until h = ahead (is_past d until) (judge_step d name packet (expiry_of until) (verdict d packet)) x h

-- a change of states that is wanted fits
pub wants_states : (d : PlainDurable) (c : StateCommand) (e : PlainChange) (o : Outcome) → states_step d c ≡ Ok (Wants e o) → IsStateChange d e
wants_states d (Track name packet until) e o h = verdict-wanted d name packet (expiry_of until) (verdict d packet) e o (tracks d name packet until h).step
wants_states d (Peer m) e o h = steps-wanted d (steps_here d m) e (outcome.Peered (counts d.states (steps_here d m))) o h
wants_states d (KillState name) e o h =
    let reported : Result Step Refusal = Ok (Wants (removes name) outcome.Killed) in
    let same : reported ≡ Ok (Wants e o) = found (is_some (held_at name d.states)) reported (Wants e o) h in
    let is : removes name ≡ e = cc (same) in
    subst (λ (y : PlainChange). IsStateChange d y) is (record { fits = refl; is = of_removal name })
wants_states d (ExpireStates tick) e o h =
    let this : IsThis d (expires tick) e = wanted d (expires tick) e (outcome.Expired (due_count d.states tick)) o h in
    subst (λ (y : PlainChange). IsStateChange d y) this.is (record { fits = this.fits; is = of_tick tick })

voids-none : (edit : TableEdit) → [] ≡ switches (voided_by (change_by edit))
voids-none (AddTo p name xs) = refl
voids-none (Delete p name xs) = refl
voids-none (Set p name xs) = refl
voids-none (Kill p name) = refl

-- ---- memory

edit-memory : (d : PlainDurable) (edit : TableEdit) (e : PlainChange) (o : Outcome) → edit_step d edit ≡ Ok (Wants e o) → edits_in_memory d edit ≡ true
edit-memory d (AddTo p name xs) e o h = refl
edit-memory d (Delete p name xs) e o h = refl
edit-memory d (Set p name xs) e o h = refl
edit-memory d (Kill p name) e o h = is-there (is_table (entries_at d p name)) (Ok (Wants (sets p name []) outcome.Killed)) (Wants e o) h

states-memory : (d : PlainDurable) (c : StateCommand) (e : PlainChange) (o : Outcome) → states_step d c ≡ Ok (Wants e o) → changes_states_in_memory d c ≡ true
states-memory d (Track name packet until) e o h =
    let is = tracks d name packet until h in
    let next : Result Step Refusal = judge_step d name packet (expiry_of until) (verdict d packet) in
    ap (λ (past : Bool). not (past || is_done (if past then Err NoTick else next))) is.ahead ∙ ap (λ (step : Result Step Refusal). not (is_done step)) is.step
states-memory d (Peer m) e o h = refl
states-memory d (KillState name) e o h = is-there (is_some (held_at name d.states)) (Ok (Wants (removes name) outcome.Killed)) (Wants e o) h
states-memory d (ExpireStates tick) e o h = ticks-on (nat_lt tick d.tick) h where
  ticks-on : (b : Bool) → unless_unfit (unless b BadTick) (Ok (Wants (expires tick) (outcome.Expired (due_count d.states tick)))) ≡ Ok (Wants e o) → not b ≡ true
  ticks-on true h = absurd (cc (h))
  ticks-on false h = refl

-- ---- any command

-- a change that is wanted fits, the command takes memory, and it mentions exactly what the change voids
pub record IsWanted (d : PlainDurable) (c : Command) (e : PlainChange) : Type 0 where
  pub fits : fits d e ≡ Ok tt
  pub memory : takes_memory d c ≡ true
  pub mentions : mentioned c ≡ switches (voided_by e)

this-wanted : (d : PlainDurable) (c : Command) (this e : PlainChange) → IsThis d this e → takes_memory d c ≡ true → mentioned c ≡ switches (voided_by this) → IsWanted d c e
this-wanted d c this e by memory mentions = subst (λ (x : PlainChange). IsWanted d c x) by.is (record { fits = by.fits; memory = memory; mentions = mentions })

pub wants : (t : PlainTickets) (d : PlainDurable) (c : Command) (e : PlainChange) (o : Outcome) → step_by t d c ≡ Ok (Wants e o) → IsWanted d c e
wants t d (Transact (Begin names)) e o h = absurd (none-wanted (begin_reply t names) (λ range. answer.Given range) e o h)
wants t d (Transact (Add p u r)) e o h = absurd (none-wanted (add_reply t (filter_at p) u) (λ _. answer.Done) e o h)
wants t d (Transact (Define p u name xs)) e o h = absurd (none-wanted (define_reply t (table_ruleset_at p) u name xs) (λ _. answer.Done) e o h)
wants t d (Transact (Extend p u name xs)) e o h = absurd (none-wanted (extend_reply t (table_ruleset_at p) u name xs) (λ _. answer.Done) e o h)
wants t d (Transact (Commit entries)) e o h =
    this-wanted d (Transact (Commit entries)) (commits (items (content t) entries)) e (wants_commit t d entries e o h).this refl (ap switches (sym (names-items t entries)))
wants t d (Transact (Rollback entries)) e o h = absurd (none-wanted (list_check entries) (λ _. answer.Done) e o h)
wants t d (Edit edit) e o h = this-wanted d (Edit edit) (change_by edit) e (wants_edit d edit e o h) (edit-memory d edit e o h) (voids-none edit)
wants t d (OfStates c) e o h =
    let change : IsStateChange d e = wants_states d c e o h in
    record { fits = change.fits; memory = states-memory d c e o h; mentions = voids_none_of_states e change.is }
wants t d (Ask q) e o h = absurd (cc (h))
wants t d (History c) e o h = absurd (cc (h))

-- ---- what wants a change is nothing else

abbrev pub IsNoChange : Step → Type 0
IsNoChange s = (e : PlainChange) (o : Outcome) → Wants e o ≡ s → ⊥

pub never-wanted : (r : Result (Unit {0}) ChangeRefusal) (e : PlainChange) (o : Outcome) (s : Step) → IsNoChange s → unless_unfit r (Ok (Wants e o)) ≡ Ok s → ⊥
never-wanted (Ok u) e o s none h = none e o (cc (h))
never-wanted (Err y) e o s none h = cc (h)

pub never-committed : (r : Result (Unit {0}) TicketRefusal) (d : PlainDurable) (e : PlainChange) (o : Outcome) (s : Step) → IsNoChange s → unless_refused r (λ _. wanting d e o) ≡ Ok s → ⊥
never-committed (Ok u) d e o s none h = never-wanted (fits d e) e o s none h
never-committed (Err y) d e o s none h = cc (h)

pub never-there : (there : Bool) (e : PlainChange) (o : Outcome) (s : Step) → IsNoChange s → if_there there (Ok (Wants e o)) ≡ Ok s → ⊥
never-there true e o s none h = none e o (cc (h))
never-there false e o s none h = cc (h)

pub never-edited : (d : PlainDurable) (edit : TableEdit) (s : Step) → IsNoChange s → edit_step d edit ≡ Ok s → ⊥
never-edited d (AddTo p name xs) s none h = never-wanted (fits d (adds p name xs)) (adds p name xs) (added_of (additions (entries_at d p name) xs)) s none h
never-edited d (Delete p name xs) s none h =
    let e : PlainChange = deletes p name xs in
    let o : Outcome = deleted_of (deletions (entries_at d p name) xs) in
    never-there (is_table (entries_at d p name)) e o s none (fit (no_conflict xs) (if_there (is_table (entries_at d p name)) (Ok (Wants e o))) s h).second
never-edited d (Set p name xs) s none h = never-wanted (fits d (sets p name xs)) (sets p name xs) outcome.Set s none h
never-edited d (Kill p name) s none h = never-there (is_table (entries_at d p name)) (sets p name []) outcome.Killed s none h

-- ---- what is left to whoever keeps the history

history-is-none : (x : HistoryCommand) → IsNoChange (OfHistory x)
history-is-none x e o is = cc (is)

never-left : {A : Type 0} (r : Result A TicketRefusal) (reported : A → Answer) (x : HistoryCommand) → unless_refused r (λ v. Ok (Done (reported v))) ≡ Ok (OfHistory x) → ⊥
never-left (Ok v) reported x h = cc (h)
never-left (Err e) reported x h = cc (h)

never-made : (d : PlainDurable) (v : RuleVerdict) (s : PlainState) (stale : Bool) (x : HistoryCommand) → (if stale then Ok (Done (answer.Stale v)) else wanting d (acts (step.Insert s ∷ [])) (outcome.Tracked v)) ≡ Ok (OfHistory x) → ⊥
never-made d v s true x h = cc (h)
never-made d v s false x h = never-wanted (fits d (acts (step.Insert s ∷ []))) (acts (step.Insert s ∷ [])) (outcome.Tracked v) (OfHistory x) (history-is-none x) h

never-tracked : (d : PlainDurable) (name : StateName) (packet : PlainPacket) (expiry : ℕ) (v : RuleVerdict) (made : Option Bound) (x : HistoryCommand) → tracked d name packet expiry v made ≡ Ok (OfHistory x) → ⊥
never-tracked d name packet expiry v None x h = cc (h)
never-tracked d name packet expiry v (Some b) x h =
    let s : PlainState = (name, record { generation = 0; flow = flow_of packet; bound = b; expiry = expiry }) in
    never-made d v s (is_some (held_at s.0 d.states)) x h

never-judged : (d : PlainDurable) (name : StateName) (packet : PlainPacket) (expiry : ℕ) (v : Verdict) (x : HistoryCommand) → judge_step d name packet expiry v ≡ Ok (OfHistory x) → ⊥
never-judged d name packet expiry (Stateful s) x h = cc (h)
never-judged d name packet expiry (ByRules by) x h = never-tracked d name packet expiry by (makes_state d by) x h

never-stated : (d : PlainDurable) (c : StateCommand) (x : HistoryCommand) → states_step d c ≡ Ok (OfHistory x) → ⊥
never-stated d (Track name packet until) x h = never-judged d name packet (expiry_of until) (verdict d packet) x (tracks d name packet until h).step
never-stated d (Peer m) x h = never-wanted (fits d (acts (steps_here d m))) (acts (steps_here d m)) (outcome.Peered (counts d.states (steps_here d m))) (OfHistory x) (history-is-none x) h
never-stated d (KillState name) x h = never-there (is_some (held_at name d.states)) (removes name) outcome.Killed (OfHistory x) (history-is-none x) h
never-stated d (ExpireStates tick) x h = never-wanted (fits d (expires tick)) (expires tick) (outcome.Expired (due_count d.states tick)) (OfHistory x) (history-is-none x) h

-- it is what the history is asked
pub left_is : (t : PlainTickets) (d : PlainDurable) (c : Command) (x : HistoryCommand) → step_by t d c ≡ Ok (OfHistory x) → c ≡ History x
left_is t d (Transact (Begin names)) x h = absurd (never-left (begin_reply t names) (λ range. answer.Given range) x h)
left_is t d (Transact (Add p u r)) x h = absurd (never-left (add_reply t (filter_at p) u) (λ _. answer.Done) x h)
left_is t d (Transact (Define p u name xs)) x h = absurd (never-left (define_reply t (table_ruleset_at p) u name xs) (λ _. answer.Done) x h)
left_is t d (Transact (Extend p u name xs)) x h = absurd (never-left (extend_reply t (table_ruleset_at p) u name xs) (λ _. answer.Done) x h)
left_is t d (Transact (Commit entries)) x h = absurd (never-committed (commit_check t entries) d (commits (items (content t) entries)) outcome.Committed (OfHistory x) (history-is-none x) h)
left_is t d (Transact (Rollback entries)) x h = absurd (never-left (list_check entries) (λ _. answer.Done) x h)
left_is t d (Edit edit) x h = absurd (never-edited d edit (OfHistory x) (history-is-none x) h)
left_is t d (OfStates c) x h = absurd (never-stated d c x h)
left_is t d (Ask q) x h = absurd (cc (h))
left_is t d (History y) x h = let same : y ≡ x = cc (h) in ap (λ (z : HistoryCommand). History z) same

-- ---- of any command that wants a change

-- a change that is wanted fits
pub wants_what_fits : (t : PlainTickets) (d : PlainDurable) (c : Command) (e : PlainChange) (o : Outcome) → step_by t d c ≡ Ok (Wants e o) → fits d e ≡ Ok tt
wants_what_fits t d c e o h = (wants t d c e o h).fits

-- a command that wants a change takes memory
pub wants_memory : (t : PlainTickets) (d : PlainDurable) (c : Command) (e : PlainChange) (o : Outcome) → step_by t d c ≡ Ok (Wants e o) → takes_memory d c ≡ true
wants_memory t d c e o h = (wants t d c e o h).memory

-- and mentions exactly what the change voids
pub wants_mentions : (t : PlainTickets) (d : PlainDurable) (c : Command) (e : PlainChange) (o : Outcome) → step_by t d c ≡ Ok (Wants e o) → mentioned c ≡ switches (voided_by e)
wants_mentions t d c e o h = (wants t d c e o h).mentions
