-- Tables and items that are read in turn, each as a row.
use Rattle.std.proofs.{Common.{◌≡◌, ◌≤◌, ◌&&◌, Bool, true, false, T, List, [], ◌∷◌, ℕ, length, map, Ok, Err, refl, ap, ◌∙◌}, lemmas.List.length-map}
use Rattle.std.specs.{Cmp.Lexicographic.nat_list_cmp_total, FinMap.is_sorted, Ordering.is_lt}
use Rattle.pf_form.specs.declared.bytes.fault.Fault.TheVariants.{Bad}
use Rattle.pf_addr.specs.Path.Names.{name_order}
use Rattle.pf_form.specs.Bytes.{Forms.{Value, counted, reads}, Lists.{in_order, ordered}}
use Rattle.pf_core.specs.declared.durable.change.Item.{Item}
use Rattle.pf_store.proofs.InOrder.{sorted_of}
use Rattle.pf_ticket.specs.{declared.limits.TheConstants.OFFERED_TABLE_LIMIT, NamedTables.PlainDefinedTable}
use Rattle.pf_store.specs.declared.encoding.{items.StoredItem.StoredItem, tables.StoredTable.StoredTable}
use Rattle.pf_anchor.specs.Forms.{NamedShape, named_form, plain_named}
use Rattle.pf_store.specs.declared.encoding.recorded.Recorded.{Recorded}
use Rattle.pf_store.specs.Groups.{defined_form, named_before, ItemShape, item_form, items_form, plain_item, is_commit, change_form, group_form, plain_record, is_group}
use Rattle.pf_store.proofs.Pushed.{few}

-- ---- tables

abbrev table_of : StoredTable → PlainDefinedTable
table_of r = r.table

abbrev plain_table : StoredTable → Value NamedShape
plain_table r = plain_named r.table

abbrev in_turn : List PlainDefinedTable → Bool
in_turn = in_order (λ a b. is_lt (name_order a.0 b.0))

-- if each row comes before the next, they are tables in the order of their names
pub rows_sorted : (rows : List StoredTable) → in_order named_before (map plain_table rows) ≡ true
    → T (is_sorted name_order (map table_of rows))
rows_sorted rows is = sorted_of nat_list_cmp_total (map table_of rows) (back rows is) where
  back : (rs : List StoredTable) → in_order named_before (map plain_table rs) ≡ true → in_turn (map table_of rs) ≡ true
  back [] h = refl
  back (r ∷ []) h = refl
  back (r ∷ s ∷ rs) h = by (is_lt (name_order r.table.0 s.table.0)) h (back (s ∷ rs)) where
    by : (b : Bool) → (b && in_order named_before (map plain_table (s ∷ rs))) ≡ true
        → (in_order named_before (map plain_table (s ∷ rs)) ≡ true → in_turn (map table_of (s ∷ rs)) ≡ true)
        → (b && in_turn (map table_of (s ∷ rs))) ≡ true
    by true g rest = rest g
    by false g rest = absurd (cc (g))

plain_tables : (rows : List StoredTable) → map plain_named (map table_of rows) ≡ map plain_table rows
plain_tables [] = refl
plain_tables (r ∷ rows) = ap (λ l. plain_table r ∷ l) (plain_tables rows)

pub tables_read : (rows : List StoredTable) (tables : List PlainDefinedTable) (before after : List ℕ) → tables ≡ map table_of rows
    → length rows ≤ OFFERED_TABLE_LIMIT → reads (ordered named_before 4 named_form) before ≡ Ok (map plain_table rows, after)
    → reads defined_form before ≡ Ok (map plain_named tables, after)
unfolding defined_form
tables_read rows tables before after are le is =
    rw (are, plain_tables rows, is, few OFFERED_TABLE_LIMIT rows plain_table le) refl

-- ---- items

abbrev item_of : StoredItem → Item
item_of r = r.item

abbrev plain_row : StoredItem → Value ItemShape
plain_row r = plain_item r.item

plain_items : (rows : List StoredItem) → map plain_item (map item_of rows) ≡ map plain_row rows
plain_items [] = refl
plain_items (r ∷ rows) = ap (λ l. plain_row r ∷ l) (plain_items rows)

as_many : (rows : List StoredItem) (items : List Item) → items ≡ map item_of rows → is_commit (map plain_row rows) ≡ is_commit items
as_many rows items are = rw (are, length-map rows item_of, length-map rows plain_row) refl

-- as many as a commit may name
pub items_read : (version : ℕ) (rows : List StoredItem) (items : List Item) (before after : List ℕ) → items ≡ map item_of rows → is_commit items ≡ true
    → reads (counted 1 (item_form version)) before ≡ Ok (map plain_row rows, after) → reads (items_form version) before ≡ Ok (map plain_item items, after)
unfolding items_form
items_read version rows items before after are many is =
    let all : is_commit (map plain_row rows) ≡ true = as_many rows items are ∙ many in
    rw (are, plain_items rows, is, all) refl

-- none, or more than those
pub items_refused : (version : ℕ) (rows : List StoredItem) (items : List Item) (before after : List ℕ) → items ≡ map item_of rows
    → is_commit items ≡ false
    → reads (counted 1 (item_form version)) before ≡ Ok (map plain_row rows, after) → reads (items_form version) before ≡ Err (Bad (length before))
unfolding items_form
items_refused version rows items before after are none is =
    let not_all : is_commit (map plain_row rows) ≡ false = as_many rows items are ∙ none in
    rw (is, not_all) refl

-- ---- groups

many_records : (rs : List Recorded) → is_group (map plain_record rs) ≡ is_group rs
many_records rs = rw (length-map rs plain_record) refl

-- as many as one record keeps
pub group_read : (version : ℕ) (rs : List Recorded) (before after : List ℕ) → is_group rs ≡ true
    → reads (counted 1 (change_form version)) before ≡ Ok (map plain_record rs, after) → reads (group_form version) before ≡ Ok (map plain_record rs, after)
unfolding group_form
group_read version rs before after many is =
    let all : is_group (map plain_record rs) ≡ true = many_records rs ∙ many in
    rw (is, all) refl

-- none, or more than those
pub group_refused : (version : ℕ) (rs : List Recorded) (before after : List ℕ) → is_group rs ≡ false
    → reads (counted 1 (change_form version)) before ≡ Ok (map plain_record rs, after) → reads (group_form version) before ≡ Err (Bad (length before))
unfolding group_form
group_refused version rs before after none is =
    let not_all : is_group (map plain_record rs) ≡ false = many_records rs ∙ none in
    rw (is, not_all) refl
