-- What changes leave.
use Rattle.std.proofs.{Common.{◌≡◌, ◌≢◌, ◌⊎◌, inl, inr, ℕ, Bool, true, false, cond, ◌&&◌, List, [], ◌∷◌, refl, sym, ap, ◌∙◌, subst}, lemmas.Cmp.eq_by_cmp_equiv}
use Rattle.std.specs.{FinMap.{slice_cmp-IsAntisymmetric, nat_cmp-IsAntisymmetric}, Ordering.eq_by_cmp}
use Rattle.pf_addr.proofs.PathsRead.{same_path_is}
use Rattle.pf_addr.specs.{Path.Names.name_order, Path.Paths.{path_order, same_path}}
use Rattle.pf_table.specs.{Edits.{added, deleted, replaced}, Entries.PlainEntry}
use Rattle.pf_anchor.specs.Tables.{placed_table, table_order}
use Rattle.pf_anchor.proofs.{RulesetMaps.{map_all, replaced_in_turn}, TableMaps.{table_order_total, tables_replaced, table_maps_stay}}
use Rattle.pf_core.specs.{Durable.Changes.{PlainDurable, rulesets_in, tables_in, entries_at, with_entries}, Laws.Durable.{ReplacesExactly, IsEdited, EditsExactly, DeletesNothing, StepsExactly}}
use Rattle.pf_core.proofs.TableCounts.{deleted-none}
use Rattle.pf_map.proofs.Tests.{equal_of}
use Rattle.std.specs.Cmp.{tied_then}

pub replaces_exactly : ReplacesExactly
replaces_exactly d items is = record {
  epoch = refl;
  tick = refl;
  states = refl;
  maps = record { rulesets = map_all (rulesets_in items) d.config.rulesets is.rulesets; tables = table_maps_stay (tables_in items) d.config.tables is.tables };
  rules = replaced_in_turn (rulesets_in items) d.config.rulesets;
  tables = tables_replaced (tables_in items) d.config.tables;
}

-- ---- keys of tables

-- the keys of two tables are equal if their paths and names are
pub same-keys : (p q name other : List ℕ) → eq_by_cmp table_order (p, name) (q, other) ≡ (same_path p q && eq_by_cmp name_order name other)
same-keys p q name other = sym (tied_then (path_order p q) (name_order name other))

-- keys that aren't equal don't tie
keys-differ : (p q name other : List ℕ) → (p ≢ q) ⊎ (name ≢ other) → eq_by_cmp table_order (p, name) (q, other) ≡ false
keys-differ p q name other differ = same-keys p q name other ∙ by (same_path p q) (eq_by_cmp name_order name other) refl refl differ where
  by : (a b : Bool) → same_path p q ≡ a → eq_by_cmp name_order name other ≡ b → (p ≢ q) ⊎ (name ≢ other) → (a && b) ≡ false
  by true true paths names (inl apart) = absurd (apart (same_path_is p q paths))
  by true true paths names (inr apart) = absurd (apart ((slice_cmp-IsAntisymmetric nat_cmp-IsAntisymmetric) name other (equal_of (name_order name other) names)))
  by true false paths names h = refl
  by false b paths names h = refl

-- ---- edits of tables

edited : (d : PlainDurable) (p name : List ℕ) (es : List PlainEntry) → IsEdited d p name es (with_entries d p name es)
edited d p name es = record {
  epoch = refl;
  tick = refl;
  rulesets = refl;
  states = refl;
  here = tables_replaced (placed_table p name es ∷ []) d.config.tables p name ∙ ap (λ (b : Bool). cond b es (entries_at d p name)) ((eq_by_cmp_equiv table_order_total).refl (p, name));
  others = λ q other differ.
      tables_replaced (placed_table p name es ∷ []) d.config.tables q other ∙ ap (λ (b : Bool). cond b es (entries_at d q other)) (keys-differ p q name other differ);
  map = λ is. table_maps_stay (placed_table p name es ∷ []) d.config.tables is;
}

set-to-none : replaced [] ≡ []
unfolding added
set-to-none = refl

pub edits_exactly : EditsExactly
edits_exactly = record {
  by_add = λ d p name xs. edited d p name (added (entries_at d p name) xs);
  by_delete = λ d p name xs. edited d p name (deleted (entries_at d p name) xs);
  by_set = λ d p name xs. edited d p name (replaced xs);
  by_kill = λ d p name. subst (λ (es : List PlainEntry). IsEdited d p name es (with_entries d p name (replaced []))) set-to-none (edited d p name (replaced []));
}

pub deletes_nothing : DeletesNothing
deletes_nothing d p name xs none = (edited d p name (deleted (entries_at d p name) xs)).here ∙ ap (λ (es : List PlainEntry). deleted es xs) none ∙ deleted-none xs

pub steps_exactly : StepsExactly
steps_exactly = record {
  by_steps = λ d steps. record { epoch = refl; tick = refl; config = refl; states = refl };
  by_removal = λ d name. record { epoch = refl; tick = refl; config = refl; states = refl };
  by_tick = λ d tick. record { epoch = refl; tick = refl; config = refl; states = refl };
}
