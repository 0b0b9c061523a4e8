-- What follows from the definition of tables at paths: what is read after a change, and which table answers a rule (pf.conf(5), TABLES and
-- ANCHORS).
use Rattle.std.specs.{Prelude.{◌≡◌, ◌≢◌, ◌⊎◌, ℕ, T, Bool, false, List, [], Some, None, fold, map}, FinMap.{find, is_sorted}}
use Rattle.pf_addr.specs.declared.addr.Addr.{Addr}
use Rattle.pf_table.specs.{Entries.PlainEntry, Tables.{deciding, table_holds}}
use Rattle.pf_map.specs.ListMaps.{list_by}
use Rattle.pf_addr.specs.{Path.Names.name_order, Path.Paths.main}
use Rattle.pf_rule.specs.declared.host.host.Host.TheVariants.{Table}
use Rattle.pf_rule.specs.Host.Hosts.{host_holds}
use Rattle.pf_anchor.specs.{Rulesets.PlainPlaced, Tables.{TableKey, PlainPlacedTable, placed_table, table_order, table_found, table_at, tables_at, with_table, IsTableMap, tables_say}, Configurations.{PlainConfig, with_rulesets, with_tables}}

-- ---- changes

-- each named table has the entries that it was given last, and all others stay: those of other names, and those at other paths
abbrev pub ReplacesTables : Type 0
ReplacesTables = (items ts : List PlainPlacedTable) (p name : List ℕ) →
    table_at p name (fold with_table ts items) ≡ list_by table_order items (p, name) (table_at p name ts)

-- after a change of one table it has these entries
abbrev pub HasItsEntries : Type 0
HasItsEntries = (ts : List PlainPlacedTable) (p name : List ℕ) (es : List PlainEntry) → table_at p name (with_table ts (placed_table p name es)) ≡ es

-- the tables of other names stay, at this path and at every other
abbrev pub OtherNamesStay : Type 0
OtherNamesStay = (ts : List PlainPlacedTable) (p name : List ℕ) (es : List PlainEntry) (q other : List ℕ) → other ≢ name →
    table_at q other (with_table ts (placed_table p name es)) ≡ table_at q other ts

-- the tables at other paths stay, also those of this name
abbrev pub OtherPathsStay : Type 0
OtherPathsStay = (ts : List PlainPlacedTable) (p name : List ℕ) (es : List PlainEntry) (q other : List ℕ) → q ≢ p →
    table_at q other (with_table ts (placed_table p name es)) ≡ table_at q other ts

-- what is left is a map, which has no empty table
abbrev pub StaysTableMap : Type 0
StaysTableMap = (items ts : List PlainPlacedTable) → IsTableMap ts → IsTableMap (fold with_table ts items)

-- an empty table is taken out
abbrev pub EmptyIsAbsent : Type 0
EmptyIsAbsent = (ts : List PlainPlacedTable) (k : TableKey) → find table_order k (with_table ts (k, [])) ≡ None

-- two maps that have the same tables everywhere are equal
abbrev pub OneTableMap : Type 0
OneTableMap = (a b : List PlainPlacedTable) → IsTableMap a → IsTableMap b → ((p name : List ℕ) → table_at p name a ≡ table_at p name b) → a ≡ b

-- a change of tables leaves all rulesets as they are, and one of rulesets all tables
abbrev pub LeavesTheOther : Type 0
LeavesTheOther = (c : PlainConfig) (rulesets : List PlainPlaced) (tables : List PlainPlacedTable) →
    ((with_tables c tables).rulesets ≡ c.rulesets) × ((with_rulesets c rulesets).tables ≡ c.tables)

-- ---- the tables at a path

-- names and the entries of their tables
abbrev pub by_name : List PlainPlacedTable → List (List ℕ × List PlainEntry)
by_name ts = map (λ t. (t.0.1, t.1)) ts

-- they are in the order of their names, none of them twice, and each is the one found at that path
pub record AreTablesAt (ts : List PlainPlacedTable) (p : List ℕ) : Type 0 where
  pub ordered : T (is_sorted name_order (by_name (tables_at p ts)))
  pub each : (name : List ℕ) → find name_order name (by_name (tables_at p ts)) ≡ table_found p name ts

abbrev pub TablesAtPath : Type 0
TablesAtPath = (ts : List PlainPlacedTable) (p : List ℕ) → IsTableMap ts → AreTablesAt ts p

-- ---- which table answers

-- a path's own table answers for its rules
abbrev pub OwnAnswers : Type 0
OwnAnswers = (ts : List PlainPlacedTable) (p name : List ℕ) (own : List PlainEntry) (a : Addr) → table_found p name ts ≡ Some own →
    tables_say ts p name a ≡ table_holds own a

-- it hides main's, also if it has no entry for the address
abbrev pub OwnHidesMain : Type 0
OwnHidesMain = (ts : List PlainPlacedTable) (p name : List ℕ) (own : List PlainEntry) (a : Addr) → table_found p name ts ≡ Some own → deciding own a ≡ None →
    tables_say ts p name a ≡ false

-- if the path has none, main's answers
abbrev pub MainAnswersElse : Type 0
MainAnswersElse = (ts : List PlainPlacedTable) (p name : List ℕ) (mains : List PlainEntry) (a : Addr) → table_found p name ts ≡ None →
    table_found main name ts ≡ Some mains → tables_say ts p name a ≡ table_holds mains a

-- if main has none either, a host that names it matches no address, and its negation every one
abbrev pub NoneElse : Type 0
NoneElse = (ts : List PlainPlacedTable) (p name : List ℕ) (negated : Bool) (a : Addr) →
    table_found p name ts ≡ None → table_found main name ts ≡ None → host_holds (tables_say ts p) (Table name negated) a ≡ negated

-- a table of another name, or at any other path than these two, such as a parent or a child, changes no answer
abbrev pub OthersAnswerNothing : Type 0
OthersAnswerNothing = (ts : List PlainPlacedTable) (other : PlainPlacedTable) (p name : List ℕ) (a : Addr) →
    (other.0.1 ≢ name) ⊎ ((other.0.0 ≢ p) × (other.0.0 ≢ main)) → tables_say (with_table ts other) p name a ≡ tables_say ts p name a
