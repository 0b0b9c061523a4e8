-- Where a table goes among those that are offered, and how many there are then.
use Rattle.std.proofs.{Common.{◌≡◌, T, ℕ, ◌+◌, List, length, cond, Some, sym, ◌∙◌}, lemmas.Cmp.nat_list_cmp_total}
use Rattle.std.specs.{declared.cmp.Ordering.TheVariants.Equal, Prelude.is_some, FinMap.{find, put, is_sorted, slice_cmp-IsAntisymmetric, nat_cmp-IsAntisymmetric}, FinMap.Entries.{find-put, is_sorted-put, length-put, same_entries}}
use Rattle.pf_map.specs.Maps.{with_value}
use Rattle.pf_map.proofs.Maps.{replaces_the_key, stays_sorted}
use Rattle.pf_addr.specs.Path.Names.{name_order}
use Rattle.pf_table.specs.Entries.{PlainEntry}
use Rattle.pf_ticket.specs.NamedTables.{PlainDefinedTable}

pub order_is : (x y : List ℕ) → name_order x y ≡ Equal → x ≡ y
order_is x y h = slice_cmp-IsAntisymmetric nat_cmp-IsAntisymmetric x y h

-- with one more table they stay in order
pub put_sorted : (name : List ℕ) (rows : List PlainEntry) (ts : List PlainDefinedTable) → T (is_sorted name_order ts) → T (is_sorted name_order (put name_order name rows ts))
put_sorted name rows ts is = is_sorted-put name_order nat_list_cmp_total name rows ts is

-- the map with a table under a name, whether or not one was there
pub put_anew : (name : List ℕ) (rows : List PlainEntry) (ts : List PlainDefinedTable) → T (is_sorted name_order ts) → with_value name_order ts name (Some rows) ≡ put name_order name rows ts
put_anew name rows ts is =
    same_entries name_order nat_list_cmp_total order_is (with_value name_order ts name (Some rows)) (put name_order name rows ts)
    (stays_sorted (List PlainEntry) nat_list_cmp_total ts name (Some rows) is) (put_sorted name rows ts is)
    (λ q. replaces_the_key (List PlainEntry) nat_list_cmp_total ts name (Some rows) q ∙ sym (find-put name_order nat_list_cmp_total q name rows ts))

-- how many there are then
pub count_with : (name : List ℕ) (rows : List PlainEntry) (ts : List PlainDefinedTable) → T (is_sorted name_order ts) →
    length (put name_order name rows ts) ≡ cond (is_some (find name_order name ts)) (length ts) (length ts + 1)
count_with name rows ts is = length-put name_order nat_list_cmp_total name rows ts is
