-- What follows from the definitions; the contracts of law functions say that it holds.
use Rattle.std.specs.{Prelude.{◌≡◌, ℕ, T, true, false, List, [], ◌∷◌, map, unwrap_or, Option, None, Ok}, FinMap.{find, is_sorted}, List.list_all}
use Rattle.pf_addr.specs.Path.Names.{name_order}
use Rattle.pf_anchor.specs.Rulesets.{rules_at}
use Rattle.pf_ticket.specs.{declared.{entry.RulesetTicket.RulesetTicket, name.RulesetKind.TheVariants.Filter, name.RulesetKind.TheVariants.Table, name.RulesetName.RulesetName}, NamedTables.PlainDefinedTable, Tickets.{rules_in as offered_rules, tables_in as offered_tables, offer_at, PlainTickets, valid_ticket, content}, Mentions.{named_in, after, switches}, Names.{same_kind, is_named, names_of, filter_at, table_ruleset_at}}
use Rattle.pf_rule.specs.Packets.{PlainPacket}
use Rattle.pf_state.specs.{declared.{state.StateName.StateName, step.Insertion.TheVariants.New, step.StateStep.TheVariants.Insert}, States.{PlainState, all_stand}, Steps.insertion}
use Rattle.pf_core.specs.{declared.{command.Command.Command, command.StateCommand.TheVariants.Track, command.Command.TheVariants.Transact, command.Transaction.TheVariants.Commit, reply.Outcome.Outcome, reply.Refusal.Refusal, reply.Reply.Reply, reply.Reply.TheVariants.Refused, step.Step.TheVariants.Wants}, Calls.{Call, call, mentions_of}, Commands.{items, step_by, states_step, mentioned, named_by, is_accepted}, Durable.Changes.{PlainDurable, PlainChange, commits, acts, entries_at, applied, voided_by, fits}}

-- the tables that are offered for the table ruleset at a path
abbrev pub tables_offered : PlainTickets → List ℕ → List PlainDefinedTable
tables_offered t p = offered_tables (content t (table_ruleset_at p))

-- each table ruleset that is named has each table that was offered for it, and keeps its others
pub record AreTablesSwitched (t : PlainTickets) (entries : List RulesetTicket) (old new : PlainDurable) : Type 0 where
  pub defined : (p name : List ℕ) → is_named (names_of entries) (table_ruleset_at p) ≡ true →
      T (is_sorted name_order (tables_offered t p)) →
      entries_at new p name ≡ unwrap_or (find name_order name (tables_offered t p)) (entries_at old p name)
  pub undefined : (p name : List ℕ) → find name_order name (tables_offered t p) ≡ None → entries_at new p name ≡ entries_at old p name
  pub others : (p name : List ℕ) → is_named (names_of entries) (table_ruleset_at p) ≡ false → entries_at new p name ≡ entries_at old p name

-- each ruleset that is named has what was offered for it, and all others keep what they had
pub record AreSwitched (t : PlainTickets) (entries : List RulesetTicket) (old new : PlainDurable) : Type 0 where
  pub named : (p : List ℕ) → is_named (names_of entries) (filter_at p) ≡ true →
      rules_at p new.config.rulesets ≡ offered_rules (content t (filter_at p))
  pub others : (q : List ℕ) → is_named (names_of entries) (filter_at q) ≡ false →
      rules_at q new.config.rulesets ≡ rules_at q old.config.rulesets
  pub tables : AreTablesSwitched t entries old new

-- a commit that isn't refused switches all rulesets that it names, and no others
abbrev pub SwitchesAll : Type 0
SwitchesAll = (t : PlainTickets) (d : PlainDurable) (entries : List RulesetTicket) (e : PlainChange) (o : Outcome) →
    step_by t d (Transact (Commit entries)) ≡ Ok (Wants e o) → AreSwitched t entries d (applied d e)

-- a commit of filter rulesets alone leaves all tables, and one of table rulesets alone all rulesets
pub record LeaveTheOtherKind : Type 0 where
  pub tables : (t : PlainTickets) (d : PlainDurable) (entries : List RulesetTicket) → list_all (λ e. same_kind e.name.kind Filter) entries ≡ true →
      (applied d (commits (items (content t) entries))).config.tables ≡ d.config.tables
  pub rulesets : (t : PlainTickets) (d : PlainDurable) (entries : List RulesetTicket) → list_all (λ e. same_kind e.name.kind Table) entries ≡ true →
      (applied d (commits (items (content t) entries))).config.rulesets ≡ d.config.rulesets

-- what is wanted fits, so it can be prepared
abbrev pub WantsWhatFits : Type 0
WantsWhatFits = (t : PlainTickets) (d : PlainDurable) (c : Command) (e : PlainChange) (o : Outcome) → step_by t d c ≡ Ok (Wants e o) → fits d e ≡ Ok tt

-- a command that wants a change mentions, once it is applied, exactly what the change voids
abbrev pub VoidsTheNamed : Type 0
VoidsTheNamed = (t : PlainTickets) (d : PlainDurable) (c : Command) (e : PlainChange) (o : Outcome) → step_by t d c ≡ Ok (Wants e o) →
    mentioned c ≡ switches (voided_by e)

-- after a commit that isn't refused no ruleset that it names has a valid ticket
abbrev pub KeepsNoneValid : Type 0
KeepsNoneValid = (t : PlainTickets) (entries : List RulesetTicket) (r : Reply) (name : RulesetName) → is_accepted r ≡ true →
    is_named (names_of entries) name ≡ true → valid_ticket (after t (mentions_of (call (Transact (Commit entries)) r))) name ≡ None

-- a call leaves each ruleset that it doesn't name its valid ticket, and what is offered with it
abbrev pub LeavesTheOthers : Type 0
LeavesTheOthers = (t : PlainTickets) (c : Call) (name : RulesetName) → is_named (named_by c.command) name ≡ false →
    offer_at (after t (mentions_of c)).offers name ≡ offer_at t.offers name

-- a command mentions exactly the rulesets that it names, in order
abbrev pub MentionsTheNamed : Type 0
MentionsTheNamed = (c : Command) → map named_in (mentioned c) ≡ named_by c

-- a refused command mentions nothing
abbrev pub RefusedMentionNothing : Type 0
RefusedMentionNothing = (c : Command) (e : Refusal) → mentions_of (call c (Refused e)) ≡ []

-- A packet that is tracked with a change makes one state, which is new: its flow is no other state's, and its name was free.
pub record MakesOne (d : PlainDurable) (e : PlainChange) : Type 0 where
  pub state : PlainState
  pub change : e ≡ acts (Insert state ∷ [])
  pub new : insertion d.states state ≡ New

abbrev pub TrackMakesOne : Type 0
TrackMakesOne = (d : PlainDurable) (name : StateName) (packet : PlainPacket) (until : Option ℕ) (e : PlainChange) (o : Outcome) →
    all_stand d.tick d.states ≡ true → states_step d (Track name packet until) ≡ Ok (Wants e o) → MakesOne d e
