-- The map of tables: what a change leaves of it, and which table answers a rule.
use Rattle.std.proofs.{Common.{◌≡◌, ◌≢◌, ◌⊎◌, inl, inr, ℕ, Bool, true, false, not, cond, List, [], ◌∷◌, Option, None, refl, sym, ap, ◌∙◌}, lemmas.Cmp.{eq_by_cmp_equiv, nat_list_cmp_total, on_total, then_total}}
use Rattle.std.specs.{declared.{cmp.Ordering.Ordering, cmp.Ordering.TheVariants.Less, cmp.Ordering.TheVariants.Equal, cmp.Ordering.TheVariants.Greater}, Cmp.IsTotalOrder, FinMap.{IsAntisymmetric, slice_cmp-IsAntisymmetric, nat_cmp-IsAntisymmetric}, Option.{option_map_or, option_or}, Ordering.eq_by_cmp}
use Rattle.pf_addr.specs.declared.addr.Addr.{Addr}
use Rattle.pf_table.specs.{Entries.PlainEntry, Tables.table_holds}
use Rattle.pf_key.specs.Keys.{pairs_alike}
use Rattle.pf_map.specs.ListMaps.{list_in, unless_empty}
use Rattle.pf_map.proofs.{Maps.replaces_the_key, ListMaps.{lists_replaced, list_maps_stay, one_list_map}}
use Rattle.pf_addr.specs.{Path.Names.name_order, Path.Paths.{main, path_order}}
use Rattle.pf_rule.specs.declared.host.host.Host.TheVariants.{Table}
use Rattle.pf_rule.specs.Host.Hosts.{host_holds}
use Rattle.pf_anchor.specs.{Tables.{TableKey, PlainPlacedTable, placed_table, table_order, table_found, with_table, tables_say}, Laws.Tables.{ReplacesTables, HasItsEntries, OtherNamesStay, OtherPathsStay, StaysTableMap, EmptyIsAbsent, OneTableMap, LeavesTheOther, OwnAnswers, OwnHidesMain, MainAnswersElse, NoneElse, OthersAnswerNothing}}

-- ---- the order of keys

pub table_order_total : IsTotalOrder table_order
table_order_total = then_total {R = λ a b. path_order a.0 b.0} {S = λ a b. name_order a.1 b.1} (on_total (λ k. k.0) nat_list_cmp_total) (on_total (λ k. k.1) nat_list_cmp_total)

bytes_alike : IsAntisymmetric path_order
bytes_alike = slice_cmp-IsAntisymmetric nat_cmp-IsAntisymmetric

pub table_order_alike : IsAntisymmetric table_order
table_order_alike = pairs_alike {R = path_order} {S = name_order} bytes_alike bytes_alike

-- keys that aren't equal don't tie
differs : (a b : TableKey) → a ≢ b → eq_by_cmp table_order a b ≡ false
differs a b other = by (table_order a b) refl where
  by : (r : Ordering) → table_order a b ≡ r → eq_by_cmp table_order a b ≡ false
  by Less is = cc
  by Equal is = absurd (other (table_order_alike a b is))
  by Greater is = cc

-- ---- changes

pub tables_replaced : ReplacesTables
tables_replaced items ts p name = lists_replaced PlainEntry table_order_total items ts (p, name)

pub table_maps_stay : StaysTableMap
table_maps_stay items ts is = list_maps_stay PlainEntry table_order_total items ts is

pub empty_is_absent : EmptyIsAbsent
empty_is_absent ts k = replaces_the_key (List PlainEntry) table_order_total ts k None k ∙ rw ((eq_by_cmp_equiv table_order_total).refl k) refl

pub one_table_map : OneTableMap
one_table_map a b left right read = one_list_map PlainEntry table_order_total table_order_alike a b left right (λ k. read k.0 k.1)

-- what is found at each key after a change of one table
found_after : (ts : List PlainPlacedTable) (changed : PlainPlacedTable) (p name : List ℕ) → table_found p name (with_table ts changed) ≡ cond (eq_by_cmp table_order (p, name) changed.0) (unless_empty changed.1) (table_found p name ts)
found_after ts changed p name = replaces_the_key (List PlainEntry) table_order_total ts changed.0 (unless_empty changed.1) (p, name)

found_elsewhere : (ts : List PlainPlacedTable) (other : PlainPlacedTable) (p name : List ℕ) → other.0 ≢ (p, name) → table_found p name (with_table ts other) ≡ table_found p name ts
found_elsewhere ts other p name differ =
    found_after ts other p name
    ∙ ap (λ (b : Bool). cond b (unless_empty other.1) (table_found p name ts)) (differs (p, name) other.0 (λ e. differ (sym e)))

found_there : (ts : List PlainPlacedTable) (p name : List ℕ) (es : List PlainEntry) → table_found p name (with_table ts (placed_table p name es)) ≡ unless_empty es
found_there ts p name es =
    found_after ts (placed_table p name es) p name
    ∙ ap (λ (b : Bool). cond b (unless_empty es) (table_found p name ts)) ((eq_by_cmp_equiv table_order_total).refl (p, name))

kept : (es : List PlainEntry) → list_in (unless_empty es) ≡ es
kept [] = refl
kept (x ∷ xs) = refl

pub has_its_entries : HasItsEntries
has_its_entries ts p name es = ap (λ (o : Option (List PlainEntry)). list_in o) (found_there ts p name es) ∙ kept es

pub other_names_stay : OtherNamesStay
other_names_stay ts p name es q other differ =
    ap (λ (o : Option (List PlainEntry)). list_in o) (found_elsewhere ts (placed_table p name es) q other (λ e. differ (sym (ap (λ (k : TableKey). k.1) e))))

pub other_paths_stay : OtherPathsStay
other_paths_stay ts p name es q other differ =
    ap (λ (o : Option (List PlainEntry)). list_in o) (found_elsewhere ts (placed_table p name es) q other (λ e. differ (sym (ap (λ (k : TableKey). k.0) e))))

pub leaves_the_other : LeavesTheOther
leaves_the_other c rulesets tables = (refl, refl)

-- ---- which table answers

-- what two tables say, a path's own one first
abbrev said : Addr → Option (List PlainEntry) → Option (List PlainEntry) → Bool
said a own mains = option_map_or (λ es. table_holds es a) (option_or own mains) false

pub own_answers : OwnAnswers
own_answers ts p name own a is = ap (λ (o : Option (List PlainEntry)). said a o (table_found main name ts)) is

pub own_hides_main : OwnHidesMain
unfolding table_holds
own_hides_main ts p name own a is none = own_answers ts p name own a is ∙ rw none refl

pub main_answers_else : MainAnswersElse
main_answers_else ts p name mains a own is = ap (λ (o : Option (List PlainEntry)). said a o (table_found main name ts)) own ∙ ap (λ (o : Option (List PlainEntry)). said a None o) is

pub none_else : NoneElse
none_else ts p name negated a own is = by negated (ap (λ (o : Option (List PlainEntry)). said a o (table_found main name ts)) own ∙ ap (λ (o : Option (List PlainEntry)). said a None o) is) where
  by : (n : Bool) → tables_say ts p name a ≡ false → host_holds (tables_say ts p) (Table name n) a ≡ n
  by true absent = ap not absent
  by false absent = absent

pub others_answer_nothing : OthersAnswerNothing
others_answer_nothing ts other p name a differ =
    ap (λ (o : Option (List PlainEntry)). said a o (table_found main name (with_table ts other))) (found_elsewhere ts other p name (own differ))
    ∙ ap (λ (o : Option (List PlainEntry)). said a (table_found p name ts) o) (found_elsewhere ts other main name (mains differ)) where
      own : (other.0.1 ≢ name) ⊎ ((other.0.0 ≢ p) × (other.0.0 ≢ main)) → other.0 ≢ (p, name)
      own (inl names) = λ e. names (ap (λ (k : TableKey). k.1) e)
      own (inr paths) = λ e. paths.0 (ap (λ (k : TableKey). k.0) e)

      mains : (other.0.1 ≢ name) ⊎ ((other.0.0 ≢ p) × (other.0.0 ≢ main)) → other.0 ≢ (main, name)
      mains (inl names) = λ e. names (ap (λ (k : TableKey). k.1) e)
      mains (inr paths) = λ e. paths.1 (ap (λ (k : TableKey). k.0) e)
