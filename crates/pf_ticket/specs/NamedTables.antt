-- Tables with their names (pf.conf(5), TABLES).
use Rattle.std.specs.Prelude.{ℕ, List}
use Rattle.pf_table.specs.Entries.{PlainEntry}

-- a table's name, and its entries in their order
abbrev pub PlainDefinedTable : Type 0
PlainDefinedTable = List ℕ × List PlainEntry
