-- Rows as a page keeps them.
use Rattle.std.specs.Prelude.{List}
use Rattle.pf_trie.specs.declared.{rows.Row.{Row}, row_list.Kept.{Kept, TheVariants.Narrow, TheVariants.Wide}}

-- the rows, however many bytes each has
abbrev pub rows_of : Kept → List Row
rows_of (Narrow rows) = rows.items
rows_of (Wide rows) = rows.items
