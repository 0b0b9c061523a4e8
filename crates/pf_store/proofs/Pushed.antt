-- What is appended to bytes fits its form.
use Rattle.std.proofs.{Common.{◌≡◌, ◌≤◌, ◌&&◌, ℕ, Bool, true, false, T, List, [], ◌∷◌, length, map, refl, sym, arith}, lemmas.{List.length-map, Bool.Decides.nat_tests}}
use Rattle.std.specs.{Cmp.Lexicographic.nat_list_cmp_total, FinMap.is_sorted, List.AllByRecursion, Ordering.is_lt}
use Rattle.pf_addr.specs.Path.Names.{name_order}
use Rattle.pf_form.specs.Bytes.{Forms.{Fits, counted}, Lists.in_order}
use Rattle.pf_core.specs.declared.durable.change.Item.{Item}
use Rattle.pf_core.specs.declared.durable.change.Item.TheVariants as item
use Rattle.pf_table.specs.{declared.limits.TheConstants.{TABLE_LIMIT}, Entries.PlainEntry, EntryForms.{plain_entry}, Tables.IsTable}
use Rattle.pf_table.proofs.TableRows.{table_fits}
use Rattle.pf_store.proofs.InOrder.{in_order_of}
use Rattle.pf_anchor.specs.declared.limits.TheConstants.{RULE_LIMIT}
use Rattle.pf_rule.specs.{Rules.PlainRule, Sum.Layouts.{rule_layout, plain_rule}}
use Rattle.pf_ticket.specs.{declared.limits.TheConstants.{OFFERED_TABLE_LIMIT}, NamedTables.PlainDefinedTable}
use Rattle.pf_anchor.specs.Forms.{at_most, rule_list_form, entries_form, plain_entries, named_form, plain_named}
use Rattle.pf_store.specs.Groups.{defined_form, named_before, tables_form, item_form, items_form, plain_item, is_commit, has_item_form, change_form, group_form, plain_record, is_group}
use Rattle.pf_core.specs.Durable.Changes.{PlainChange}
use Rattle.pf_store.specs.declared.encoding.recorded.Recorded.TheVariants.{Made as made}

pub few : {A B : Type 0} (limit : ℕ) (xs : List A) (f : A → B) → length xs ≤ limit → at_most limit (map f xs) ≡ true
few limit xs f le = grind (arith, nat_tests, le, length-map xs f)

pub entries_fit : (es : List PlainEntry) → IsTable es → Fits entries_form (plain_entries es)
unfolding entries_form
entries_fit es is = (table_fits es is, few TABLE_LIMIT es plain_entry is.few)

named_in_turn : (ts : List PlainDefinedTable)
    → in_order (λ a b. is_lt (name_order a.0 b.0)) ts ≡ true → in_order named_before (map plain_named ts) ≡ true
named_in_turn [] is = refl
named_in_turn (t ∷ []) is = refl
named_in_turn (t ∷ u ∷ ts) is = by (is_lt (name_order t.0 u.0)) is (named_in_turn (u ∷ ts)) where
  by : (b : Bool) → (b && in_order (λ a c. is_lt (name_order a.0 c.0)) (u ∷ ts)) ≡ true
      → (in_order (λ a c. is_lt (name_order a.0 c.0)) (u ∷ ts) ≡ true → in_order named_before (map plain_named (u ∷ ts)) ≡ true)
      → (b && in_order named_before (map plain_named (u ∷ ts))) ≡ true
  by true h rest = rest h
  by false h rest = absurd (cc (h))

pub tables_fit : (ts : List PlainDefinedTable) → T (is_sorted name_order ts) → length ts ≤ OFFERED_TABLE_LIMIT
    → AllByRecursion (Fits named_form) (map plain_named ts)
    → Fits defined_form (map plain_named ts)
unfolding defined_form
tables_fit ts sorted le each =
    let turn = named_in_turn ts (in_order_of nat_list_cmp_total ts sorted) in
    (((omega (arith, le, length-map ts plain_named), each), turn), few OFFERED_TABLE_LIMIT ts plain_named le)

pub items_fit : (version : ℕ) (items : List Item) → is_commit items ≡ true → AllByRecursion (Fits (item_form version)) (map plain_item items)
    → Fits (items_form version) (map plain_item items)
unfolding items_form
items_fit version items is each =
    let same : length (map plain_item items) ≡ length items = length-map items plain_item in
    let many : is_commit (map plain_item items) ≡ true = rw same is in
    ((grind (arith, nat_tests, same, is), each), many)

pub rule_list_fits : (version : ℕ) (rs : List PlainRule) → length rs ≤ RULE_LIMIT → Fits (counted 4 (rule_layout version)) (map plain_rule rs)
    → Fits (rule_list_form version) (map plain_rule rs)
unfolding rule_list_form
rule_list_fits version rs le fits = (fits, few RULE_LIMIT rs plain_rule le)

-- an item whose data fit their form has one
pub item_formed : (version : ℕ) (i : Item) → Fits (item_form version) (plain_item i) → has_item_form i ≡ true
unfolding item_form tables_form defined_form
item_formed version (item.Rules r) fits = refl
item_formed version (item.Tables p ts) fits = rw (sym (length-map ts plain_named)) (fits.0.1.1)

-- changes fit a group if each fits its own form
pub made_fit : {C : Type 0} (as_plain : C → PlainChange) (version : ℕ) (cs : List C) → is_group cs ≡ true
    → AllByRecursion (Fits (change_form version)) (map (λ c. plain_record (made (as_plain c))) cs) → Fits (group_form version) (map (λ c. plain_record (made (as_plain c))) cs)
unfolding group_form
made_fit as_plain version cs is each =
    let vs = map (λ c. plain_record (made (as_plain c))) cs in
    let same : length vs ≡ length cs = length-map cs (λ c. plain_record (made (as_plain c))) in
    let many : is_group vs ≡ true = rw same is in
    ((grind (arith, nat_tests, same, is), each), many)
