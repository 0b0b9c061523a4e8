-- The tables at a path are in the order of their names.
use Rattle.std.proofs.Common.{◌≡◌, ℕ, T, ◌&&◌, Bool, true, false, cond, List, [], ◌∷◌, Option, Some, refl, sym, ap, subst, ◌∙◌}
use Rattle.std.specs.{declared.{cmp.Ordering.Ordering, cmp.Ordering.TheVariants.Less, cmp.Ordering.TheVariants.Equal, cmp.Ordering.TheVariants.Greater}, FinMap.{find, is_sorted}, FinMap.Entries.below_all, Ordering.{ordering_then, eq_by_cmp, is_eq, is_lt}}
use Rattle.pf_addr.specs.{Path.Names.name_order, Path.Paths.{path_order, same_path}}
use Rattle.pf_addr.proofs.PathsRead.{same_path_is}
use Rattle.pf_table.specs.Entries.{PlainEntry}
use Rattle.pf_anchor.specs.{Tables.{PlainPlacedTable, table_order, table_found, tables_at}, Laws.Tables.{by_name, TablesAtPath}}
use Rattle.pf_map.proofs.Tests.{both_of, first_of, second_of}
use Rattle.std.specs.Cmp.{tied_then}

then_less : (r s : Ordering) → is_eq r ≡ true → T (is_lt (ordering_then r s)) → T (is_lt s)
then_less Less s tied h = absurd (cc (tied))
then_less Equal s tied h = h
then_less Greater s tied h = absurd (cc (tied))

found_by_name : (p name : List ℕ) (ts : List PlainPlacedTable) → find name_order name (by_name (tables_at p ts)) ≡ table_found p name ts
found_by_name p name [] = refl
found_by_name p name (t ∷ ts) = by (same_path p t.0.0) refl (found_by_name p name ts) where
  by : (b : Bool) → same_path p t.0.0 ≡ b → find name_order name (by_name (tables_at p ts)) ≡ table_found p name ts →
      find name_order name (by_name (cond b (t ∷ tables_at p ts) (tables_at p ts))) ≡ cond (eq_by_cmp table_order (p, name) t.0) (Some t.1) (table_found p name ts)
  by true is rest =
      ap (λ (o : Option (List PlainEntry)). cond (eq_by_cmp name_order name t.0.1) (Some t.1) o) rest
      ∙ ap (λ (s : Bool). cond s (Some t.1) (table_found p name ts)) (sym (sym (tied_then (path_order p t.0.0) (name_order name t.0.1)) ∙ ap (λ (s : Bool). s && eq_by_cmp name_order name t.0.1) is))
  by false is rest =
      rest ∙ ap (λ (s : Bool). cond s (Some t.1) (table_found p name ts)) (sym (sym (tied_then (path_order p t.0.0) (name_order name t.0.1)) ∙ ap (λ (s : Bool). s && eq_by_cmp name_order name t.0.1) is))

below_names : (p name : List ℕ) (ts : List PlainPlacedTable) → T (below_all table_order (p, name) ts) → T (below_all name_order name (by_name (tables_at p ts)))
below_names p name [] h = h
below_names p name (t ∷ ts) h = by (same_path p t.0.0) refl (below_names p name ts (second_of _ _ h)) where
  by : (b : Bool) → same_path p t.0.0 ≡ b → T (below_all name_order name (by_name (tables_at p ts))) → T (below_all name_order name (by_name (cond b (t ∷ tables_at p ts) (tables_at p ts))))
  by true is rest = both_of _ _ (then_less (path_order p t.0.0) (name_order name t.0.1) is (first_of _ _ h)) rest
  by false is rest = rest

names_sorted : (p : List ℕ) (ts : List PlainPlacedTable) → T (is_sorted table_order ts) → T (is_sorted name_order (by_name (tables_at p ts)))
names_sorted p [] h = h
names_sorted p (t ∷ ts) h = by (same_path p t.0.0) refl (names_sorted p ts (second_of _ _ h)) where
  by : (b : Bool) → same_path p t.0.0 ≡ b → T (is_sorted name_order (by_name (tables_at p ts))) → T (is_sorted name_order (by_name (cond b (t ∷ tables_at p ts) (tables_at p ts))))
  by true is rest =
      both_of _ _ (subst (λ (q : List ℕ). T (below_all name_order t.0.1 (by_name (tables_at q ts)))) (sym (same_path_is p t.0.0 is)) (below_names t.0.0 t.0.1 ts (first_of _ _ h))) rest
  by false is rest = rest

pub tables_at_path : TablesAtPath
tables_at_path ts p is = record { ordered = names_sorted p ts is.sorted; each = λ name. found_by_name p name ts }
