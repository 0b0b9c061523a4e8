-- What follows from the definitions; the contracts of law functions say that it holds.
use Rattle.std.specs.{Prelude.{◌≡◌, T, ℕ, ◌+◌, ◌≤◌, ◌&&◌, ◌||◌, Bool, true, false, cond, List, [], ◌∷◌, ◌++◌, length, map, flat_map, is_some, option_map, Option, Some, None, Ok}, FinMap.{find, is_sorted}, List.{AllByRecursion, list_any, slice_get}, Option.{option_or, option_map_or}}
use Rattle.pf_addr.specs.Path.Names.{name_order, same_name as same_table}
use Rattle.pf_table.specs.{Edits.{replaced, has_entry, same_entry}, Entries.PlainEntry, Tables.AreEntries}
use Rattle.pf_rule.specs.Rules.{PlainRule}
use Rattle.pf_anchor.specs.declared.limits.TheConstants.{RULE_LIMIT, RULESET_LIMIT}
use Rattle.pf_ticket.specs.{declared.{entry.RulesetTicket.RulesetTicket, limits.TheConstants.LAST_COUNT, limits.TheConstants.OFFERED_TABLE_LIMIT, offered.Offered.Offered, name.RulesetName.RulesetName, ticket.Ticket.Ticket, ticket.TicketRange.TicketRange}, Names.{filter_at, table_ruleset_at, same_name, same_ticket, is_named, names_of, tickets_from, tickets_of, IsDistinct}, NamedTables.PlainDefinedTable, Tickets.{nothing_for, rules_in, tables_in, offer_at, PlainTickets, fresh, next_ticket, open_rulesets, valid_ticket, content, is_valid}, Mentions.{Mention, gave, added, defined, extended, switched, dropped, named_in, moved, after, opened, gives, switches, drops}, Replies.{twice_in, begin_reply, add_reply, define_reply, extend_reply}}

-- ---- which ticket is valid, and what is offered with it

-- whether a mention changes which ticket is valid for a ruleset whose valid ticket is this one
abbrev pub touches : RulesetName → Ticket → Mention → Bool
touches name t (gave n) = same_name n name
touches name t (added n u r) = false
touches name t (defined n u table xs) = false
touches name t (extended n u table xs) = false
touches name t (switched n) = same_name n name
touches name t (dropped n u) = same_name n name && same_ticket t u

abbrev pub AreQuiet : RulesetName → Ticket → List Mention → Type 0
AreQuiet name t [] = Unit {0}
AreQuiet name t (m ∷ ms) = (touches name t m ≡ false) × AreQuiet name t ms

-- of the mentions from `first` on, the latest that touched a ruleset is a begin's, which gave it this ticket
pub record IsGivenLast (first : PlainTickets) (ms : List Mention) (name : RulesetName) (t : Ticket) : Type 0 where
  pub before : List Mention
  pub given : RulesetName
  pub following : List Mention
  pub all : ms ≡ before ++ gave given ∷ following
  pub same : same_name given name ≡ true
  pub ticket : t ≡ next_ticket (after first before)
  pub quiet : AreQuiet name t following

-- exactly that ticket is the valid one
abbrev pub ValidIsGivenLast : Type 0
ValidIsGivenLast = (epoch : ℕ) (ms : List Mention) (name : RulesetName) (t : Ticket) → valid_ticket (opened epoch ms) name ≡ Some t →
    IsGivenLast (fresh epoch) ms name t

abbrev pub GivenLastIsValid : Type 0
GivenLastIsValid = (epoch : ℕ) (ms : List Mention) (name : RulesetName) (t : Ticket) → IsGivenLast (fresh epoch) ms name t →
    valid_ticket (opened epoch ms) name ≡ Some t

-- with a new ticket nothing is offered yet
abbrev pub StartsWithNothing : Type 0
StartsWithNothing = (t : PlainTickets) (names : List RulesetName) (name : RulesetName) → is_named names name ≡ true →
    content (after t (gives names)) name ≡ nothing_for name.kind

-- the rules that a mention adds for a ruleset with a ticket: one, or none
abbrev pub rules_added : RulesetName → Ticket → Mention → List PlainRule
rules_added name t (added n u r) = cond (same_name n name && same_ticket t u) (r ∷ []) []
rules_added name t m = []

-- the rules of the accepted adds with the valid ticket are offered, in order
abbrev pub OffersTheAdded : Type 0
OffersTheAdded = (epoch : ℕ) (ms : List Mention) (path : List ℕ) (t : Ticket) → (given : IsGivenLast (fresh epoch) ms (filter_at path) t) →
    rules_in (content (opened epoch ms) (filter_at path)) ≡ flat_map (rules_added (filter_at path) t) given.following

-- the entries with which a mention defines a table, for a ruleset with a ticket; none if it doesn't define it
abbrev pub entries_defined : RulesetName → Ticket → List ℕ → Mention → Option (List PlainEntry)
entries_defined name t table (defined n u other xs) = cond (same_name n name && same_ticket t u && same_table table other) (Some xs) None
entries_defined name t table m = None

-- the entries by which a mention extends it
abbrev pub entries_extended : RulesetName → Ticket → List ℕ → Mention → List PlainEntry
entries_extended name t table (extended n u other xs) = cond (same_name n name && same_ticket t u && same_table table other) xs []
entries_extended name t table m = []

-- the entries of the last of these mentions that defines the table, and of those behind it that extend it; none if none defines it
abbrev pub entries_since : RulesetName → Ticket → List ℕ → List Mention → Option (List PlainEntry)
entries_since name t table [] = None
entries_since name t table (m ∷ ms) = option_or (entries_since name t table ms)
    (option_map (λ xs. xs ++ flat_map (entries_extended name t table) ms) (entries_defined name t table m))

-- under each name there is the table of the entries of the last of these mentions that defines one and of the extends since, and none if
-- none defines one; the tables are in the order of their names, each name once
pub record AreDefined (name : RulesetName) (t : Ticket) (ms : List Mention) (tables : List PlainDefinedTable) : Type 0 where
  pub last : (table : List ℕ) → find name_order table tables ≡ option_map (λ xs. replaced xs) (entries_since name t table ms)
  pub order : T (is_sorted name_order tables)

-- under each name the table of the last accepted define with the valid ticket and of the accepted extends since is offered, and no other
-- table is
abbrev pub OffersTheDefined : Type 0
OffersTheDefined = (epoch : ℕ) (ms : List Mention) (path : List ℕ) (t : Ticket) →
    (given : IsGivenLast (fresh epoch) ms (table_ruleset_at path) t) →
    AreDefined (table_ruleset_at path) t given.following (tables_in (content (opened epoch ms) (table_ruleset_at path)))

-- whether an entry is offered with its sign for a table of a ruleset
abbrev pub is_offered : PlainTickets → RulesetName → List ℕ → PlainEntry → Bool
is_offered t name table x = option_map_or (λ rows. has_entry rows x) (find name_order table (tables_in (content t name))) false

-- An accepted define offers its entries for its table, and no others; an accepted extend offers its entries and those that were offered,
-- and no others.
pub record OffersEachEntry : Type 0 where
  pub define : (t : PlainTickets) (p : List ℕ) (u : Ticket) (table : List ℕ) (xs : List PlainEntry) (x : PlainEntry) →
      define_reply t (table_ruleset_at p) u table xs ≡ Ok tt →
      is_offered (moved t (defined (table_ruleset_at p) u table xs)) (table_ruleset_at p) table x ≡ list_any (same_entry x) xs
  pub extend : (t : PlainTickets) (p : List ℕ) (u : Ticket) (table : List ℕ) (xs : List PlainEntry) (x : PlainEntry) →
      extend_reply t (table_ruleset_at p) u table xs ≡ Ok tt →
      is_offered (moved t (extended (table_ruleset_at p) u table xs)) (table_ruleset_at p) table x
      ≡ (is_offered t (table_ruleset_at p) table x || list_any (same_entry x) xs)

-- a mention leaves the offers of the rulesets that it doesn't name
abbrev pub LeavesTheOthers : Type 0
LeavesTheOthers = (t : PlainTickets) (ms : List Mention) (name : RulesetName) → is_named (map named_in ms) name ≡ false →
    offer_at (after t ms).offers name ≡ offer_at t.offers name

-- a commit takes out what is offered for the rulesets that it names, and nothing else
abbrev pub CommitTakesOut : Type 0
CommitTakesOut = (t : PlainTickets) (names : List RulesetName) (name : RulesetName) →
    offer_at (after t (switches names)).offers name ≡ cond (is_named names name) None (offer_at t.offers name)

-- whether one of these entries names the ruleset with its valid ticket
abbrev pub is_named_validly : PlainTickets → List RulesetTicket → RulesetName → Bool
is_named_validly t entries name = list_any (λ e. same_name e.name name && is_valid t name e.ticket) entries

-- a rollback drops what is offered for the rulesets that it names with their valid tickets, and nothing else
abbrev pub RollbackDropsExactly : Type 0
RollbackDropsExactly = (t : PlainTickets) (entries : List RulesetTicket) (name : RulesetName) →
    offer_at (after t (drops entries)).offers name ≡ cond (is_named_validly t entries name) None (offer_at t.offers name)

-- ---- the transactions, and what was mentioned since the opening

-- the transactions are what these mentions leave
abbrev pub Agrees : PlainTickets → List Mention → Type 0
Agrees t ms = t ≡ opened t.epoch ms

-- they agree with no mentions at first, and stay so with each list of mentions
pub record GoesOnAgreeing : Type 0 where
  pub first : (epoch : ℕ) → Agrees (fresh epoch) []
  pub on : (t : PlainTickets) (ms more : List Mention) → Agrees t ms → Agrees (after t more) (ms ++ more)

-- ---- how many tickets and rulesets

-- each ruleset with a valid ticket is among the open ones once, and no other is
pub record AreCounted (t : PlainTickets) : Type 0 where
  pub once : IsDistinct (open_rulesets t)
  pub valid : (name : RulesetName) → is_named (open_rulesets t) name ≡ is_some (valid_ticket t name)

abbrev pub CountsTheOpen : Type 0
CountsTheOpen = (epoch : ℕ) (ms : List Mention) → AreCounted (opened epoch ms)

-- no ticket is there twice
abbrev pub AreOnce : List Ticket → Type 0
AreOnce [] = Unit {0}
AreOnce (t ∷ ts) = (list_any (λ u. same_ticket u t) ts ≡ false) × AreOnce ts

-- numbered tickets are given once each
abbrev pub GivesEachOnce : Type 0
GivesEachOnce = (epoch count number : ℕ) → AreOnce (tickets_from epoch count number)

-- for each ruleset that a begin names, its reply has at that place the ticket that is then valid, unless the ruleset is named again later
abbrev pub TellsWhatIsGiven : Type 0
TellsWhatIsGiven = (t : PlainTickets) (range : TicketRange) (before : List RulesetName) (name : RulesetName) (following : List RulesetName) →
    begin_reply t (before ++ name ∷ following) ≡ Ok range → is_named following name ≡ false
    → valid_ticket (after t (gives (before ++ name ∷ following))) name ≡ slice_get (tickets_of range) (length before)

-- this many tickets were given
pub record AreGiven (number : ℕ) (t new : PlainTickets) : Type 0 where
  pub epoch : new.epoch ≡ t.epoch
  pub next : new.next ≡ t.next + number

-- a begin gives as many as it names rulesets, and its reply has them; no other step gives one
pub record BeginsGive : Type 0 where
  pub reported : (t : PlainTickets) (names : List RulesetName) (range : TicketRange) → begin_reply t names ≡ Ok range →
      tickets_of range ≡ tickets_from t.epoch t.next (length names)
  pub begin : (t : PlainTickets) (names : List RulesetName) → AreGiven (length names) t (after t (gives names))
  pub add : (t : PlainTickets) (n : RulesetName) (u : Ticket) (r : PlainRule) → AreGiven 0 t (moved t (added n u r))
  pub define : (t : PlainTickets) (n : RulesetName) (u : Ticket) (name : List ℕ) (xs : List PlainEntry) → AreGiven 0 t (moved t (defined n u name xs))
  pub extend : (t : PlainTickets) (n : RulesetName) (u : Ticket) (name : List ℕ) (xs : List PlainEntry) → AreGiven 0 t (moved t (extended n u name xs))
  pub commit : (t : PlainTickets) (names : List RulesetName) → AreGiven 0 t (after t (switches names))
  pub rollback : (t : PlainTickets) (entries : List RulesetTicket) → AreGiven 0 t (after t (drops entries))

-- ---- the limits

-- at most this many rules, tables, and entries of each table, with no table's name and no network of a table twice
pub record IsFew (o : Offered) : Type 0 where
  pub rules : length (rules_in o) ≤ RULE_LIMIT
  pub tables : length (tables_in o) ≤ OFFERED_TABLE_LIMIT
  pub entries : AllByRecursion (λ n. AreEntries n.1) (tables_in o)
  pub order : T (is_sorted name_order (tables_in o))

-- at most as many rulesets of both kinds as there may be, and at most as much offered for each
pub record IsWithin (t : PlainTickets) : Type 0 where
  pub given : t.next ≤ LAST_COUNT + 1
  pub opened : length t.offers ≤ RULESET_LIMIT
  pub offered : (name : RulesetName) → IsFew (content t name)

-- they hold at first, and after each step that isn't refused
pub record KeepsTheLimits : Type 0 where
  pub first : (epoch : ℕ) → IsWithin (fresh epoch)
  pub begin : (t : PlainTickets) (names : List RulesetName) (range : TicketRange) → begin_reply t names ≡ Ok range → IsWithin t →
      IsWithin (after t (gives names))
  pub add : (t : PlainTickets) (p : List ℕ) (u : Ticket) (r : PlainRule) → add_reply t (filter_at p) u ≡ Ok tt → IsWithin t →
      IsWithin (moved t (added (filter_at p) u r))
  pub define : (t : PlainTickets) (p : List ℕ) (u : Ticket) (name : List ℕ) (xs : List PlainEntry) →
      define_reply t (table_ruleset_at p) u name xs ≡ Ok tt → IsWithin t → IsWithin (moved t (defined (table_ruleset_at p) u name xs))
  pub extend : (t : PlainTickets) (p : List ℕ) (u : Ticket) (name : List ℕ) (xs : List PlainEntry) →
      extend_reply t (table_ruleset_at p) u name xs ≡ Ok tt → IsWithin t → IsWithin (moved t (extended (table_ruleset_at p) u name xs))
  pub commit : (t : PlainTickets) (names : List RulesetName) → IsWithin t → IsWithin (after t (switches names))
  pub rollback : (t : PlainTickets) (entries : List RulesetTicket) → IsWithin t → IsWithin (after t (drops entries))

-- ---- names

-- the rules and the tables at one path are two rulesets
abbrev pub AreApart : Type 0
AreApart = (p q : List ℕ) → same_name (filter_at p) (table_ruleset_at q) ≡ false

-- the ruleset at this place is named before it, and those before it are named once each
pub record IsFirstAgain (names : List RulesetName) (place : ℕ) : Type 0 where
  pub before : List RulesetName
  pub name : RulesetName
  pub following : List RulesetName
  pub all : names ≡ before ++ name ∷ following
  pub placed : length before ≡ place
  pub again : is_named before name ≡ true
  pub once : IsDistinct before

-- if a ruleset is named twice, the answer is the first place at which one is named again
abbrev pub TwiceIsFirstAgain : Type 0
TwiceIsFirstAgain = (entries : List RulesetTicket) (place : ℕ) → twice_in entries ≡ Some place → IsFirstAgain (names_of entries) place

-- else each ruleset is named once
abbrev pub OtherwiseOnce : Type 0
OtherwiseOnce = (entries : List RulesetTicket) → twice_in entries ≡ None → IsDistinct (names_of entries)
