-- What a command means: the step that it is due, what it mentions, and whether it takes memory (pf(4), DIOCXBEGIN to DIOCXROLLBACK,
-- DIOCRADDADDRS to DIOCRTSTADDRS; pf.conf(5); pfctl(8), -k). One line each, by family. The limits, the order of refusals and what peers say
-- are this project's own.
use Rattle.std.specs.Prelude.{ℕ, ◌==◌, ◌||◌, Bool, true, false, not, if◌then◌else◌, is_some, List, [], ◌∷◌, length, map, filter, Option, Some, None, Result, Ok, Err, nat_lt, nat_le, position, unwrap_or}
use Rattle.std.specs.Option.{option_map_or}
use Rattle.pf_addr.specs.Refusing.{and_then, unless, refused_at}
use Rattle.pf_table.specs.{declared.{answer.Addition.Addition, answer.Deletion.Deletion}, Edits.{additions, deletions}, Entries.PlainEntry, Tables.deciding}
use Rattle.pf_table.specs.declared.answer.Addition.TheVariants as addition
use Rattle.pf_table.specs.declared.answer.Deletion.TheVariants as deletion
use Rattle.pf_anchor.specs.{Rulesets.{ruled, rules_at}, Tables.tables_at, declared.{verdict.RuleVerdict.RuleVerdict, verdict.RuleVerdict.TheVariants.Rule as Deciding, verdict.RuleVerdict.TheVariants.Default as NoRule}}
use Rattle.pf_rule.specs.declared.rule.Action.TheVariants.{Pass, Block}
use Rattle.pf_rule.specs.Packets.{PlainPacket}
use Rattle.pf_state.specs.{declared.{state.Bound.Bound, state.StateName.StateName, step.StateStep.StateStep as StateStep, peer.message.Message.Message}, Flows.flow_of, States.{PlainState, held_at}, Steps.{counts, due_count}, Peer.Written.message_bytes, Failover.Incoming.steps_of, Failover.Outgoing.exported_messages}
use Rattle.pf_state.specs.declared.state.Bound.TheVariants as bound
use Rattle.pf_state.specs.declared.step.StateStep.TheVariants as step
use Rattle.pf_ticket.specs.{declared.{entry.RulesetTicket.RulesetTicket, name.RulesetName.RulesetName, offered.Offered.Offered, refusal.TicketRefusal.TicketRefusal}, Names.{filter_at, table_ruleset_at, names_of}, Mentions.{Mention, added, defined, extended, gives, switches, drops}, Tickets.{PlainTickets, content}, Replies.{begin_reply, add_reply, define_reply, extend_reply, list_check, commit_check}}
use Rattle.pf_ticket.specs.declared.offered.Offered.TheVariants as offered
use Rattle.pf_core.specs.{declared.{durable.change.Item.Item, command.Command.Command, command.Command.TheVariants.Transact, command.Command.TheVariants.Edit, command.Command.TheVariants.States as OfStates, command.Command.TheVariants.Ask, command.Command.TheVariants.History, command.HistoryCommand.TheVariants.Log, command.HistoryCommand.TheVariants.Publish, command.Question.Question, command.Question.TheVariants.Judge, command.Question.TheVariants.Test, command.Question.TheVariants.ShowRules, command.Question.TheVariants.ShowTables, command.Question.TheVariants.ShowStates, command.Question.TheVariants.Sum, command.Question.TheVariants.Export, command.StateCommand.StateCommand, command.StateCommand.TheVariants.Track, command.StateCommand.TheVariants.Peer, command.StateCommand.TheVariants.Kill as KillState, command.StateCommand.TheVariants.Expire as ExpireStates, command.TableEdit.TableEdit, command.TableEdit.TheVariants.Add as AddTo, command.TableEdit.TheVariants.Delete, command.TableEdit.TheVariants.Set, command.TableEdit.TheVariants.Kill, command.Transaction.Transaction, command.Transaction.TheVariants.Begin, command.Transaction.TheVariants.Add, command.Transaction.TheVariants.Define, command.Transaction.TheVariants.Extend, command.Transaction.TheVariants.Commit, command.Transaction.TheVariants.Rollback, reply.Answer.Answer, reply.Outcome.Outcome, reply.Refusal.Refusal, reply.Refusal.TheVariants.Absent, reply.Refusal.TheVariants.BadCount, reply.Refusal.TheVariants.BadTick, reply.Refusal.TheVariants.NotGrouped, group.TheConstants.GROUP_LIMIT, reply.Reply.Reply, reply.Reply.TheVariants.Answer as Answered, reply.Reply.TheVariants.Applied, reply.Reply.TheVariants.Stored, reply.Reply.TheVariants.Refused, step.Step.Step, step.Step.TheVariants.Done, step.Step.TheVariants.Wants, step.Step.TheVariants.OfHistory, durable.refusal.ChangeRefusal.ChangeRefusal, durable.verdict.Verdict.Verdict, durable.verdict.Verdict.TheVariants.State as Stateful, durable.verdict.Verdict.TheVariants.Rules as ByRules}, Durable.Changes.{PlainDurable, PlainChange, commits, adds, deletes, sets, acts, removes, expires, entries_at, main_sum, no_conflict, fits, verdict}, Refusals.{refusal_of, change_refusal_of}}
use Rattle.pf_core.specs.declared.durable.change.Item.TheVariants as item
use Rattle.pf_core.specs.declared.reply.Answer.TheVariants as answer
use Rattle.pf_core.specs.declared.reply.Outcome.TheVariants as outcome

-- ---- steps

-- what the tickets refuse is refused
abbrev pub unless_refused : {A B : Type 0} → Result A TicketRefusal → (A → Result B Refusal) → Result B Refusal
unless_refused (Ok x) f = f x
unless_refused (Err e) f = Err (refusal_of e)

-- what a commit replaces at a name's path by what is offered: all rules, or those tables that are offered
abbrev pub item_of : RulesetName → Offered → Item
item_of name (offered.Rules rules) = item.Rules (ruled name.path rules)
item_of name (offered.Tables named) = item.Tables name.path named

-- what a commit of these entries replaces: each ruleset, with what is offered for it
abbrev pub items : (RulesetName → Offered) → List RulesetTicket → List Item
items content entries = map (λ e. item_of e.name (content e.name)) entries

-- what doesn't fit is refused
abbrev pub unless_unfit : {A : Type 0} → Result (Unit {0}) ChangeRefusal → Result A Refusal → Result A Refusal
unless_unfit (Ok u) next = next
unless_unfit (Err e) next = Err (change_refusal_of e)

-- a change is wanted, if it fits
abbrev pub wanting : PlainDurable → PlainChange → Outcome → Result Step Refusal
wanting d e o = unless_unfit (fits d e) (Ok (Wants e o))

abbrev pub commit_step : PlainTickets → PlainDurable → List RulesetTicket → Result Step Refusal
commit_step t d entries = unless_refused (commit_check t entries) (λ _. wanting d (commits (items (content t) entries)) outcome.Committed)

-- a rollback is refused only for its list
abbrev pub rollback_step : List RulesetTicket → Result Step Refusal
rollback_step entries = unless_refused (list_check entries) (λ _. Ok (Done answer.Done))

abbrev pub transact_step : PlainTickets → PlainDurable → Transaction → Result Step Refusal
transact_step t d (Begin names) = unless_refused (begin_reply t names) (λ range. Ok (Done (answer.Given range)))
transact_step t d (Add p u rule) = unless_refused (add_reply t (filter_at p) u) (λ _. Ok (Done answer.Done))
transact_step t d (Define p u name xs) = unless_refused (define_reply t (table_ruleset_at p) u name xs) (λ _. Ok (Done answer.Done))
transact_step t d (Extend p u name xs) = unless_refused (extend_reply t (table_ruleset_at p) u name xs) (λ _. Ok (Done answer.Done))
transact_step t d (Commit entries) = commit_step t d entries
transact_step t d (Rollback entries) = rollback_step entries

-- ---- edits of tables

abbrev pub same_addition : Addition → Addition → Bool
same_addition addition.Added addition.Added = true
same_addition addition.Same addition.Same = true
same_addition addition.Conflict addition.Conflict = true
same_addition wanted answer = false

-- how many of these are new, how many are there already, and how many are there with the other sign
abbrev pub added_of : List Addition → Outcome
added_of answers = outcome.Added (length (filter (same_addition addition.Added) answers))
    (length (filter (same_addition addition.Same) answers)) (length (filter (same_addition addition.Conflict) answers))

abbrev pub same_deletion : Deletion → Deletion → Bool
same_deletion deletion.Deleted deletion.Deleted = true
same_deletion deletion.Absent deletion.Absent = true
same_deletion wanted answer = false

-- how many of these were there, and how many weren't
abbrev pub deleted_of : List Deletion → Outcome
deleted_of answers = outcome.Deleted (length (filter (same_deletion deletion.Deleted) answers))
    (length (filter (same_deletion deletion.Absent) answers))

-- what isn't there is refused
abbrev pub if_there : {A : Type 0} → Bool → Result A Refusal → Result A Refusal
if_there true next = next
if_there false next = Err Absent

-- a table that has entries is there
abbrev pub is_table : List PlainEntry → Bool
is_table es = not (length es == 0)

-- Each change that is accepted is wanted, even if it leaves all as it is. To kill a table is to set it to no entries.
abbrev pub edit_step : PlainDurable → TableEdit → Result Step Refusal
edit_step d (AddTo p name xs) = wanting d (adds p name xs) (added_of (additions (entries_at d p name) xs))
edit_step d (Delete p name xs) = unless_unfit (no_conflict xs)
    (if_there (is_table (entries_at d p name)) (Ok (Wants (deletes p name xs) (deleted_of (deletions (entries_at d p name) xs)))))
edit_step d (Set p name xs) = wanting d (sets p name xs) outcome.Set
edit_step d (Kill p name) = if_there (is_table (entries_at d p name)) (Ok (Wants (sets p name []) outcome.Killed))

-- ---- changes of states

-- the rule that a state is bound to if the rule of this path and number makes it here: an anchor's rule isn't recorded
abbrev pub bound_here : PlainDurable → List ℕ → ℕ → Bound
bound_here d [] number = bound.Rule number (main_sum d)
bound_here d (b ∷ path) number = bound.Default

-- a rule that passes a packet and keeps state makes one, with this binding
abbrev pub makes_state : PlainDurable → RuleVerdict → Option Bound
makes_state d (Deciding path number (Pass true)) = Some (bound_here d path number)
makes_state d (Deciding path number (Pass false)) = None
makes_state d (Deciding path number Block) = None
makes_state d NoRule = None

-- a state is made only under a name that isn't taken
abbrev pub make_step : PlainDurable → RuleVerdict → PlainState → Result Step Refusal
make_step d by s = if is_some (held_at s.0 d.states) then Ok (Done (answer.Stale by))
    else wanting d (acts (step.Insert s ∷ [])) (outcome.Tracked by)

abbrev pub tracked : PlainDurable → StateName → PlainPacket → ℕ → RuleVerdict → Option Bound → Result Step Refusal
tracked d name packet expiry by None = Ok (Done (answer.Judged (ByRules by)))
tracked d name packet expiry by (Some b) = make_step d by (name, record { generation = 0; flow = flow_of packet; bound = b; expiry = expiry })

abbrev pub judge_step : PlainDurable → StateName → PlainPacket → ℕ → Verdict → Result Step Refusal
judge_step d name packet expiry (Stateful s) = Ok (Done (answer.Judged (Stateful s)))
judge_step d name packet expiry (ByRules by) = tracked d name packet expiry by (makes_state d by)

-- whether the tick until which a packet is tracked has come
abbrev pub is_past : PlainDurable → Option ℕ → Bool
is_past d until = option_map_or (λ expiry. nat_le expiry d.tick) until false

-- for ever, if no tick is named
abbrev pub expiry_of : Option ℕ → ℕ
expiry_of until = unwrap_or until 0

-- A tick that has come is refused whatever happens to the packet; so is 0.
abbrev pub track_step : PlainDurable → StateName → PlainPacket → Option ℕ → Result Step Refusal
track_step d name packet until = if is_past d until then Err BadTick else judge_step d name packet (expiry_of until) (verdict d packet)

-- what a peer's message does to the states here
abbrev pub steps_here : PlainDurable → Message → List StateStep
steps_here d m = steps_of m (main_sum d) (length (rules_at [] d.config.rulesets))

-- A message that is accepted is a change, even if it leaves all as it is, and so is a tick, also the one that it is already.
abbrev pub states_step : PlainDurable → StateCommand → Result Step Refusal
states_step d (Track name packet until) = track_step d name packet until
states_step d (Peer m) = wanting d (acts (steps_here d m)) (outcome.Peered (counts d.states (steps_here d m)))
states_step d (KillState name) = if_there (is_some (held_at name d.states)) (Ok (Wants (removes name) outcome.Killed))
states_step d (ExpireStates tick) = wanting d (expires tick) (outcome.Expired (due_count d.states tick))

-- ---- questions

-- The answer to a question, by what is kept. A test asks the table at the path that it names, and no other.
abbrev pub answer_of : PlainDurable → Question → Answer
answer_of d (Judge packet) = answer.Judged (verdict d packet)
answer_of d (Test p name a) = answer.Tested (deciding (entries_at d p name) a)
answer_of d (ShowRules p) = answer.Rules (rules_at p d.config.rulesets)
answer_of d (ShowTables p) = answer.Tables (tables_at p d.config.tables)
answer_of d ShowStates = answer.States d.states
answer_of d Sum = answer.Sum (main_sum d)
answer_of d Export = answer.Exported (map message_bytes (exported_messages (main_sum d) d.states))

-- The step by the open transactions and what is kept. A question is never refused, and changes nothing; what the history is asked is left
-- to whoever keeps it.
abbrev pub step_by : PlainTickets → PlainDurable → Command → Result Step Refusal
step_by t d (Transact transaction) = transact_step t d transaction
step_by t d (Edit edit) = edit_step d edit
step_by t d (OfStates c) = states_step d c
step_by t d (Ask q) = Ok (Done (answer_of d q))
step_by t d (History c) = Ok (OfHistory c)

-- a command that may change something
abbrev pub may_change : Command → Bool
may_change (Transact transaction) = true
may_change (Edit edit) = true
may_change (OfStates c) = true
may_change (Ask q) = false
may_change (History c) = false

-- ---- groups

-- A command that a group may have: a commit, a change of a table, or one of the states. If it is accepted, it makes a change, or tracks a
-- packet.
abbrev pub may_be_grouped : Command → Bool
may_be_grouped (Transact (Begin names)) = false
may_be_grouped (Transact (Add p t rule)) = false
may_be_grouped (Transact (Define p t name xs)) = false
may_be_grouped (Transact (Extend p t name xs)) = false
may_be_grouped (Transact (Commit entries)) = true
may_be_grouped (Transact (Rollback entries)) = false
may_be_grouped (Edit edit) = true
may_be_grouped (OfStates c) = true
may_be_grouped (Ask q) = false
may_be_grouped (History c) = false

-- whether a group is empty, or has more commands than the limit
abbrev pub bad_number : ℕ → Bool
bad_number n = (n == 0) || nat_lt GROUP_LIMIT n

-- what refuses a group whatever is kept: its number, or the first of its commands that it may not have
abbrev pub group_words : List Command → Result (Unit {0}) Refusal
group_words commands = and_then (unless (bad_number (length commands)) BadCount)
    (refused_at (λ i. NotGrouped i) (position (λ c. not (may_be_grouped c)) commands))

-- ---- mentions

-- the mentions of a step that is accepted
abbrev pub transacted : Transaction → List Mention
transacted (Begin names) = gives names
transacted (Add p t rule) = added (filter_at p) t rule ∷ []
transacted (Define p t name xs) = defined (table_ruleset_at p) t name xs ∷ []
transacted (Extend p t name xs) = extended (table_ruleset_at p) t name xs ∷ []
transacted (Commit entries) = switches (names_of entries)
transacted (Rollback entries) = drops entries

-- of all commands only the steps of a transaction mention rulesets
abbrev pub mentioned : Command → List Mention
mentioned (Transact t) = transacted t
mentioned (Edit edit) = []
mentioned (OfStates c) = []
mentioned (Ask q) = []
mentioned (History c) = []

-- the rulesets that a command names
abbrev pub named_by : Command → List RulesetName
named_by (Transact (Begin names)) = names
named_by (Transact (Add p t rule)) = filter_at p ∷ []
named_by (Transact (Define p t name xs)) = table_ruleset_at p ∷ []
named_by (Transact (Extend p t name xs)) = table_ruleset_at p ∷ []
named_by (Transact (Commit entries)) = names_of entries
named_by (Transact (Rollback entries)) = names_of entries
named_by (Edit edit) = []
named_by (OfStates c) = []
named_by (Ask q) = []
named_by (History c) = []

abbrev pub is_accepted : Reply → Bool
is_accepted (Answered a) = true
is_accepted (Applied n o) = true
is_accepted (Stored n o) = true
is_accepted (Refused e) = false

-- ---- memory

abbrev pub transacts_in_memory : Transaction → Bool
transacts_in_memory (Begin names) = true
transacts_in_memory (Add p t rule) = true
transacts_in_memory (Define p t name xs) = true
transacts_in_memory (Extend p t name xs) = true
transacts_in_memory (Commit entries) = true
transacts_in_memory (Rollback entries) = false

abbrev pub asks_for_memory : Question → Bool
asks_for_memory (Judge packet) = false
asks_for_memory (Test p name a) = false
-- rules and tables are shared: if they can't have another owner, the answer is that memory ran out
asks_for_memory (ShowRules p) = true
asks_for_memory (ShowTables p) = true
asks_for_memory ShowStates = true
asks_for_memory Sum = false
asks_for_memory Export = true

-- a kill of what isn't there takes none
abbrev pub edits_in_memory : PlainDurable → TableEdit → Bool
edits_in_memory d (AddTo p name xs) = true
edits_in_memory d (Delete p name xs) = true
edits_in_memory d (Set p name xs) = true
edits_in_memory d (Kill p name) = is_table (entries_at d p name)

abbrev pub is_done : Result Step Refusal → Bool
is_done (Ok (Done a)) = true
is_done (Ok (Wants e o)) = false
is_done (Ok (OfHistory c)) = false
is_done (Err e) = false

-- a packet that is tracked takes none if it is answered without a change, or if its tick has come
abbrev pub changes_states_in_memory : PlainDurable → StateCommand → Bool
changes_states_in_memory d (Track name packet until) = not (is_past d until || is_done (track_step d name packet until))
changes_states_in_memory d (Peer m) = true
changes_states_in_memory d (KillState name) = is_some (held_at name d.states)
changes_states_in_memory d (ExpireStates tick) = not (nat_lt tick d.tick)

-- whether a command may be refused for want of memory, by what is kept
abbrev pub takes_memory : PlainDurable → Command → Bool
takes_memory d (Transact t) = transacts_in_memory t
takes_memory d (Edit edit) = edits_in_memory d edit
takes_memory d (OfStates c) = changes_states_in_memory d c
takes_memory d (Ask q) = asks_for_memory q
takes_memory d (History Log) = false
takes_memory d (History Publish) = true
