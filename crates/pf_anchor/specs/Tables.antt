-- Tables at paths (pf.conf(5), TABLES and ANCHORS): a finite map, and which table the rules of a ruleset name. That an empty table doesn't
-- exist is this project's own.
use Rattle.std.specs.{Prelude.{ℕ, Bool, false, List, Option, filter}, FinMap.find, Option.{option_map_or, option_or}}
use Rattle.std.specs.declared.cmp.Ordering.{Ordering}
use Rattle.pf_addr.specs.declared.addr.Addr.{Addr}
use Rattle.pf_table.specs.{Entries.PlainEntry, Tables.table_holds}
use Rattle.pf_key.specs.Keys.{pair_order}
use Rattle.pf_map.specs.ListMaps.{list_at, with_list, IsListMap}
use Rattle.pf_addr.specs.{Path.Names.name_order, Path.Paths.{main, path_order, same_path}}

-- where a table is: its path and its name
abbrev pub TableKey : Type 0
TableKey = List ℕ × List ℕ

-- tables are ordered by their paths, at one path by their names, both by bytes
abbrev pub table_order : TableKey → TableKey → Ordering
table_order = pair_order path_order name_order

-- where a table is, and its entries
abbrev pub PlainPlacedTable : Type 0
PlainPlacedTable = TableKey × List PlainEntry

abbrev pub placed_table : List ℕ → List ℕ → List PlainEntry → PlainPlacedTable
placed_table p name es = ((p, name), es)

-- tables in the order of their paths and names, none of them twice and none of them empty
abbrev pub IsTableMap : List PlainPlacedTable → Type 0
IsTableMap = IsListMap table_order

-- the map with the table at one path and name replaced, or taken out if the new one is empty
abbrev pub with_table : List PlainPlacedTable → PlainPlacedTable → List PlainPlacedTable
with_table = with_list table_order

-- the table at this path and name, if there is one
abbrev pub table_found : List ℕ → List ℕ → List PlainPlacedTable → Option (List PlainEntry)
table_found p name ts = find table_order (p, name) ts

-- its entries, none if there is no table
abbrev pub table_at : List ℕ → List ℕ → List PlainPlacedTable → List PlainEntry
table_at p name ts = list_at table_order (p, name) ts

-- the tables at this path, in the order of their names
abbrev pub tables_at : List ℕ → List PlainPlacedTable → List PlainPlacedTable
tables_at p ts = filter (λ t. same_path p t.0.0) ts

-- ---- the table that a rule names

-- the table that the rules of the ruleset at p mean by a name: the one at p if it exists, else the main ruleset's; no path in between is
-- asked
abbrev pub named_table : List PlainPlacedTable → List ℕ → List ℕ → Option (List PlainEntry)
named_table ts p name = option_or (table_found p name ts) (table_found main name ts)

-- what tables say to these rules: whether the table of a name matches an address, which it doesn't if there is no table
abbrev pub tables_say : List PlainPlacedTable → List ℕ → List ℕ → Addr → Bool
tables_say ts p name a = option_map_or (λ es. table_holds es a) (named_table ts p name) false
