-- What is kept, what a change does to it (pf(4), DIOCXCOMMIT and DIOCRADDADDRS to DIOCRSETADDRS), and what it says of a packet (pf.conf(5),
-- PACKET FILTERING, ANCHORS and TABLES). That an empty table doesn't exist, how a peer's states act, and the limits are this project's own.
use Rattle.std.specs.{Prelude.{ℕ, ◌==◌, ◌&&◌, Bool, true, not, List, [], ◌∷◌, ◌++◌, fold, if◌then◌else◌, length, map, nat_lt, Option, Result, Ok}, FinMap.is_sorted, List.{list_any, position}, Option.{option_map_or, option_or}}
use Rattle.pf_addr.specs.{Refusing.{and_then, unless, refused_at}, Path.Names.name_order, Path.Paths.same_path}
use Rattle.pf_rule.specs.{Packets.PlainPacket, Sum.Forms.ruleset_sum}
use Rattle.pf_table.specs.declared.limits.TheConstants.{TABLE_LIMIT}
use Rattle.pf_table.specs.{Entries.PlainEntry, Edits.{added, deleted, replaced, conflict_in}}
use Rattle.pf_anchor.specs.declared.limits.TheConstants.{RULESET_LIMIT, TABLE_COUNT_LIMIT}
use Rattle.pf_anchor.specs.{Configurations.{PlainConfig, nothing, with_rulesets, with_tables}, Evaluation.judged, Rulesets.{PlainPlaced, rules_at}, Tables.{PlainPlacedTable, placed_table, table_at}}
use Rattle.pf_state.specs.{declared.{state.StateName.StateName, step.StateStep.StateStep}, Flows.flow_of, States.{PlainState, state_of, stands}, Steps.{after as stepped_on, passes_limit, without_state, without_due, any_inserts_due}}
use Rattle.pf_ticket.specs.declared.name.RulesetName.{RulesetName}
use Rattle.pf_ticket.specs.{Names.{filter_at, table_ruleset_at}, NamedTables.PlainDefinedTable, Replies.twice_after}
use Rattle.pf_core.specs.declared.{durable.change.Item.Item, durable.refusal.ChangeRefusal.ChangeRefusal, durable.refusal.ChangeRefusal.TheVariants.Twice, durable.refusal.ChangeRefusal.TheVariants.Conflict, durable.refusal.ChangeRefusal.TheVariants.TableFull, durable.refusal.ChangeRefusal.TheVariants.TooManyRulesets, durable.refusal.ChangeRefusal.TheVariants.TooManyTables, durable.refusal.ChangeRefusal.TheVariants.StatesFull, durable.refusal.ChangeRefusal.TheVariants.BadTick, durable.verdict.Verdict.Verdict, durable.verdict.Verdict.TheVariants.State as Stateful, durable.verdict.Verdict.TheVariants.Rules}
use Rattle.pf_core.specs.declared.durable.change.Item.TheVariants as item

pub record PlainDurable : Type 0 where
  pub epoch : ℕ
  pub tick : ℕ
  pub config : PlainConfig
  pub states : List PlainState

-- no rulesets, no tables and no states, at tick 0, in the opening with this epoch
abbrev pub kept_nothing : ℕ → PlainDurable
kept_nothing e = record { epoch = e; tick = 0; config = nothing; states = [] }

-- the checksum of the main rules
abbrev pub sum_of : PlainConfig → List ℕ
sum_of c = ruleset_sum (rules_at [] c.rulesets)

abbrev pub main_sum : PlainDurable → List ℕ
main_sum d = sum_of d.config

-- the entries of the table at a path and name, none if there is no table
abbrev pub entries_at : PlainDurable → List ℕ → List ℕ → List PlainEntry
entries_at d p name = table_at p name d.config.tables

-- ---- changes

-- A change: what a commit replaces, in the command's order; or entries, as handed in, that are added to the table at a path and name,
-- deleted from it, or replace its own; or steps that act on the states, in order, also those that change nothing; or the name of a state
-- that is taken out; or a tick, which takes out the states that are due.
pub data PlainChange : Type 0 where
  commits : List Item → PlainChange
  adds : List ℕ → List ℕ → List PlainEntry → PlainChange
  deletes : List ℕ → List ℕ → List PlainEntry → PlainChange
  sets : List ℕ → List ℕ → List PlainEntry → PlainChange
  acts : List StateStep → PlainChange
  removes : StateName → PlainChange
  expires : ℕ → PlainChange

-- the rulesets among what a commit replaces
abbrev pub rulesets_in : List Item → List PlainPlaced
rulesets_in [] = []
rulesets_in (item.Rules r ∷ items) = r ∷ rulesets_in items
rulesets_in (item.Tables p named ∷ items) = rulesets_in items

-- whether the main ruleset is among these
abbrev pub replaces_main : List PlainPlaced → Bool
replaces_main rulesets = list_any (λ r. same_path r.0 []) rulesets

-- named tables at a path
abbrev pub placed : List ℕ → List PlainDefinedTable → List PlainPlacedTable
placed p named = map (λ t. placed_table p t.0 t.1) named

-- the tables among what a commit replaces: of each table ruleset those that were defined
abbrev pub tables_in : List Item → List PlainPlacedTable
tables_in [] = []
tables_in (item.Rules r ∷ items) = tables_in items
tables_in (item.Tables p named ∷ items) = placed p named ++ tables_in items

-- ---- what a change leaves

-- with these entries in one table, or without the table if there are none
abbrev pub with_entries : PlainDurable → List ℕ → List ℕ → List PlainEntry → PlainDurable
with_entries d p name es = record d { config = with_tables d.config (placed_table p name es ∷ []) }

-- with these states in place of its own
abbrev pub with_states : PlainDurable → List PlainState → PlainDurable
with_states d ss = record d { states = ss }

-- at another tick, with the states that stand at it
abbrev pub at_tick : PlainDurable → ℕ → PlainDurable
at_tick d tick = record d { tick = tick; states = without_due d.states tick }

-- the same in another opening
abbrev pub in_epoch : ℕ → PlainDurable → PlainDurable
in_epoch epoch d = record d { epoch = epoch }

-- what is kept after a change: exactly the named rulesets and tables are replaced, all else stays
abbrev pub applied : PlainDurable → PlainChange → PlainDurable
applied d (commits items) = record d { config = with_tables (with_rulesets d.config (rulesets_in items)) (tables_in items) }
applied d (adds p name xs) = with_entries d p name (added (entries_at d p name) xs)
applied d (deletes p name xs) = with_entries d p name (deleted (entries_at d p name) xs)
applied d (sets p name xs) = with_entries d p name (replaced xs)
applied d (acts steps) = with_states d (stepped_on d.states steps)
applied d (removes name) = with_states d (without_state d.states name)
applied d (expires tick) = at_tick d tick

-- what is kept after all changes, in order
abbrev pub after : PlainDurable → List PlainChange → PlainDurable
after d changes = fold applied d changes

abbrev pub name_of : Item → RulesetName
name_of (item.Rules r) = filter_at r.0
name_of (item.Tables p named) = table_ruleset_at p

-- the rulesets whose tickets a change voids: edits of tables and changes of states void none
abbrev pub voided_by : PlainChange → List RulesetName
voided_by (commits items) = map name_of items
voided_by (adds p name xs) = []
voided_by (deletes p name xs) = []
voided_by (sets p name xs) = []
voided_by (acts steps) = []
voided_by (removes name) = []
voided_by (expires tick) = []

-- ---- which changes fit

-- a list that names no network with both signs
abbrev pub no_conflict : List PlainEntry → Result (Unit {0}) ChangeRefusal
no_conflict xs = refused_at (λ i. Conflict i) (conflict_in xs)

-- an item has its tables in the order of their names, so none of them twice
abbrev pub is_in_order : Item → Bool
is_in_order (item.Rules r) = true
is_in_order (item.Tables p named) = is_sorted name_order named

-- the first item that names a ruleset named before it, else the first that names a table twice
abbrev pub named_again : List Item → Option ℕ
named_again items = option_or (twice_after [] (map name_of items)) (position (λ i. not (is_in_order i)) items)

-- entries that a table can hold
abbrev pub holdable : List PlainEntry → Result (Unit {0}) ChangeRefusal
holdable es = unless (nat_lt TABLE_LIMIT (length es)) TableFull

-- a table that isn't there yet adds one
abbrev pub is_one_more : List PlainEntry → List PlainEntry → Bool
is_one_more old new = (length old == 0) && not (length new == 0)

-- it isn't made if there would be too many with it
abbrev pub room_for_table : PlainDurable → List ℕ → List ℕ → List PlainEntry → Result (Unit {0}) ChangeRefusal
room_for_table d p name new = unless (is_one_more (entries_at d p name) new
    && nat_lt TABLE_COUNT_LIMIT (length (with_entries d p name new).config.tables)) TooManyTables

-- these entries may be the table's
abbrev pub replaceable : PlainDurable → List ℕ → List ℕ → List PlainEntry → Result (Unit {0}) ChangeRefusal
replaceable d p name new = and_then (holdable new) (room_for_table d p name new)

-- no more rulesets and tables than there may be
abbrev pub few : PlainConfig → Result (Unit {0}) ChangeRefusal
few c = and_then (unless (nat_lt RULESET_LIMIT (length c.rulesets)) TooManyRulesets)
    (unless (nat_lt TABLE_COUNT_LIMIT (length c.tables)) TooManyTables)

-- Why a change isn't made, if there is a reason. A commit names nothing twice, and its limits are counted after all of it, those of states
-- after each step. Deleting entries or a state is bound by no limit. No state is inserted that is due already, and the tick doesn't go back.
abbrev pub fits : PlainDurable → PlainChange → Result (Unit {0}) ChangeRefusal
fits d (commits items) = and_then (refused_at (λ i. Twice i) (named_again items)) (few (applied d (commits items)).config)
fits d (adds p name xs) = and_then (no_conflict xs) (replaceable d p name (added (entries_at d p name) xs))
fits d (deletes p name xs) = no_conflict xs
fits d (sets p name xs) = and_then (no_conflict xs) (replaceable d p name (replaced xs))
fits d (acts steps) = and_then (unless (any_inserts_due d.tick steps) BadTick) (unless (passes_limit d.states steps) StatesFull)
fits d (removes name) = Ok tt
fits d (expires tick) = unless (nat_lt tick d.tick) BadTick

-- what a change leaves, if it fits
abbrev pub changed : PlainDurable → PlainChange → Result PlainDurable ChangeRefusal
changed d e = and_then (fits d e) (Ok (applied d e))

-- ---- packets

-- what happens to a packet of the flow of this state: it passes, if the state stands at the tick; else the main ruleset judges it, and where
-- its anchor rules match what they lead to
abbrev pub verdict_by : PlainDurable → PlainPacket → PlainState → Verdict
verdict_by d packet s = if stands d.tick s.1 then Stateful s.0 else Rules (judged d.config packet)

-- a packet passes by the state of its flow, if that stands; without one the rules decide
abbrev pub verdict : PlainDurable → PlainPacket → Verdict
verdict d packet = option_map_or (verdict_by d packet) (state_of (flow_of packet) d.states) (Rules (judged d.config packet))
