-- The open transactions: for each inactive ruleset its valid ticket, and what is offered with it (pf(4), DIOCXBEGIN, DIOCADDRULE,
-- DIOCRINADEFINE; that more entries can be offered for a table is this project's own).
use Rattle.std.specs.{Prelude.{◌≡◌, ℕ, ◌+◌, Bool, true, List, [], ◌∷◌, ◌++◌, map, set, get_or, fold, Option, Some, None, is_some}, FinMap.{find, put}, List.{insert, remove}, Option.option_map_or}
use Rattle.pf_addr.specs.Path.Names.{name_order}
use Rattle.pf_rule.specs.Rules.{PlainRule}
use Rattle.pf_table.specs.{Entries.PlainEntry, Edits.added}
use Rattle.pf_map.specs.Maps.{with_value}
use Rattle.pf_ticket.specs.{declared.{name.RulesetKind.RulesetKind, name.RulesetKind.TheVariants.Filter, name.RulesetKind.TheVariants.Table, name.RulesetName.RulesetName, offered.Offered.Offered, offered.Offered.TheVariants.Rules, offered.Offered.TheVariants.Tables, ticket.Ticket.Ticket}, NamedTables.PlainDefinedTable, Names.{ruleset_order, ticket, is_ticket}}

-- ---- what is offered

-- what was loaded into an inactive ruleset: rules in the order of their adds, and tables in the order of their names. Of this a filter
-- ruleset offers the rules, and a table ruleset the tables
pub record Loaded : Type 0 where
  pub rules : List PlainRule
  pub tables : List PlainDefinedTable

abbrev pub loaded_with : List PlainRule → List PlainDefinedTable → Loaded
loaded_with rs ts = record { rules = rs; tables = ts }

abbrev pub nothing : Loaded
nothing = loaded_with [] []

-- with one more rule at the end
abbrev pub with_rule : Loaded → PlainRule → Loaded
with_rule l r = loaded_with (l.rules ++ r ∷ []) l.tables

-- with these entries as the table of that name, in place of any earlier one
abbrev pub with_table : Loaded → List ℕ → List PlainEntry → Loaded
with_table l name rows = loaded_with l.rules (put name_order name rows l.tables)

-- with these entries added to the table of that name; as it is if there is none
abbrev pub with_entries : Loaded → List ℕ → List PlainEntry → Loaded
with_entries l name xs = option_map_or (λ rows. with_table l name (added rows xs)) (find name_order name l.tables) l

abbrev pub offered_as : RulesetKind → Loaded → Offered
offered_as Filter l = Rules l.rules
offered_as Table l = Tables l.tables

abbrev pub nothing_for : RulesetKind → Offered
nothing_for kind = offered_as kind nothing

abbrev pub rules_in : Offered → List PlainRule
rules_in (Rules rs) = rs
rules_in (Tables ts) = []

abbrev pub tables_in : Offered → List PlainDefinedTable
tables_in (Rules rs) = []
tables_in (Tables ts) = ts

-- the valid ticket of an inactive ruleset, and what was loaded with it
pub record PlainInactive : Type 0 where
  pub ticket : Ticket
  pub loaded : Loaded

abbrev pub offer_with : Ticket → Loaded → PlainInactive
offer_with t l = record { ticket = t; loaded = l }

-- inactive rulesets with their offers, in the order of their names: a finite map
abbrev pub PlainSlots : Type 0
PlainSlots = List (RulesetName × PlainInactive)

abbrev pub offer_at : PlainSlots → RulesetName → Option PlainInactive
offer_at os name = find ruleset_order name os

-- with this as the ruleset's offer, or with none
abbrev pub with_offer : PlainSlots → RulesetName → Option PlainInactive → PlainSlots
with_offer os name o = with_value ruleset_order os name o

-- with these in turn
abbrev pub with_all : PlainSlots → PlainSlots → PlainSlots
with_all os new = fold (λ to e. with_offer to e.0 (Some e.1)) os new

-- what a begin of these rulesets offers: nothing yet, with the tickets from this count on
abbrev pub given_from : ℕ → ℕ → List RulesetName → PlainSlots
given_from epoch count [] = []
given_from epoch count (n ∷ ns) = (n, offer_with (ticket epoch count) nothing) ∷ given_from epoch (count + 1) ns

-- the ruleset's offer is at this place
pub record IsPlace (name : RulesetName) (os : PlainSlots) (i : ℕ) : Type 0 where
  pub found : (e : RulesetName × PlainInactive) → e ≡ get_or os i e → (e.0 ≡ name) × (offer_at os name ≡ Some e.1)
  pub some : is_some (offer_at os name) ≡ true
  pub replaced : (o : PlainInactive) → with_offer os name (Some o) ≡ set os i (name, o)
  pub removed : with_offer os name None ≡ remove os i

-- the ruleset has no offer, and this is where it would be
pub record IsGap (name : RulesetName) (os : PlainSlots) (i : ℕ) : Type 0 where
  pub none : offer_at os name ≡ None
  pub inserted : (o : PlainInactive) → with_offer os name (Some o) ≡ insert os i (name, o)
  pub kept : with_offer os name None ≡ os

-- ---- the transactions of an opening

-- its epoch, the count of the next ticket, and what is offered
pub record PlainTickets : Type 0 where
  pub epoch : ℕ
  pub next : ℕ
  pub offers : PlainSlots

abbrev pub tickets_with : ℕ → ℕ → PlainSlots → PlainTickets
tickets_with e n os = record { epoch = e; next = n; offers = os }

-- no ticket was given yet
abbrev pub fresh : ℕ → PlainTickets
fresh epoch = tickets_with epoch 1 []

-- the ticket that a begin gives next
abbrev pub next_ticket : PlainTickets → Ticket
next_ticket t = ticket t.epoch t.next

-- the rulesets that have a valid ticket
abbrev pub open_rulesets : PlainTickets → List RulesetName
open_rulesets t = map (λ e. e.0) t.offers

abbrev pub ticket_in : Option PlainInactive → Option Ticket
ticket_in None = None
ticket_in (Some o) = Some o.ticket

abbrev pub loaded_in : Option PlainInactive → Loaded
loaded_in None = nothing
loaded_in (Some o) = o.loaded

-- the valid ticket of a ruleset, and what is offered with it
abbrev pub valid_ticket : PlainTickets → RulesetName → Option Ticket
valid_ticket t name = ticket_in (offer_at t.offers name)

abbrev pub loaded : PlainTickets → RulesetName → Loaded
loaded t name = loaded_in (offer_at t.offers name)

abbrev pub content : PlainTickets → RulesetName → Offered
content t name = offered_as name.kind (loaded t name)

abbrev pub is_valid : PlainTickets → RulesetName → Ticket → Bool
is_valid t name u = is_ticket (valid_ticket t name) u
