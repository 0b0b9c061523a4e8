-- Limits that a change keeps.
use Rattle.std.proofs.{Common.{◌≡◌, T, ℕ, ◌≤◌, ◌==◌, ◌&&◌, not, cond, Bool, true, false, List, [], ◌∷◌, length, refl, sym, ap, subst, Result, Ok, arith}, lemmas.Bool.cond_both, lemmas.Bool.Decides.nat_tests}
use Rattle.std.specs.{Prelude.nat_lt, FinMap.is_sorted, List.AllByRecursion, Ordering.eq_by_cmp}
use Rattle.std.specs.declared.cmp.Ordering.{Ordering}
use Rattle.pf_table.specs.declared.limits.TheConstants.{TABLE_LIMIT}
use Rattle.pf_addr.specs.{Path.Paths.path_order, Refusing.{and_then, unless, refused_at, AreBothPassed, both_passed, not_refused}}
use Rattle.pf_rule.specs.Rules.{PlainRule}
use Rattle.pf_table.specs.{Laws.Edits.{deleted_fewer, sorted_added, sorted_deleted}, Edits.{added, deleted, replaced}, Entries.PlainEntry, Tables.AreEntries}
use Rattle.pf_addr.specs.NetOrder.{net_order}
use Rattle.pf_map.specs.ListMaps.{list_by}
use Rattle.pf_anchor.specs.declared.limits.TheConstants.{RULE_LIMIT, RULESET_LIMIT, TABLE_COUNT_LIMIT}
use Rattle.pf_anchor.specs.{Configurations.PlainConfig, Rulesets.rules_at, Tables.{placed_table, table_order}}
use Rattle.pf_anchor.proofs.TableMaps.{tables_replaced, table_maps_stay}
use Rattle.pf_state.specs.Steps.{passes_limit, any_inserts_due}
use Rattle.pf_state.proofs.{Counting.states_deleted, Tables.stays_states, Ticks.{states_due, left_stand, stand_after, stand_without}}
use Rattle.pf_core.specs.{declared.{durable.refusal.ChangeRefusal.ChangeRefusal, durable.refusal.ChangeRefusal.TheVariants.Twice, durable.refusal.ChangeRefusal.TheVariants.TableFull, durable.refusal.ChangeRefusal.TheVariants.TooManyRulesets, durable.refusal.ChangeRefusal.TheVariants.TooManyTables, durable.refusal.ChangeRefusal.TheVariants.StatesFull, durable.refusal.ChangeRefusal.TheVariants.BadTick, durable.change.Item.Item}, Durable.Changes.{PlainDurable, commits, deletes, applied, fits, named_again, rulesets_in, tables_in, entries_at, with_entries, is_one_more, no_conflict, holdable, room_for_table, replaceable}, Laws.Durable.{IsWithin, AreFew, KeepsWithin}}
use Rattle.pf_core.proofs.{Edited.replaces_exactly, TableCounts.{deleted-none, no-table-more}}

table-within : (d : PlainDurable) (p name : List ℕ) (es : List PlainEntry) → AreEntries es → length (with_entries d p name es).config.tables ≤ TABLE_COUNT_LIMIT → IsWithin d → IsWithin (with_entries d p name es)
table-within d p name es few count w = record {
  maps = record { rulesets = w.maps.rulesets; tables = table_maps_stay (placed_table p name es ∷ []) d.config.tables w.maps.tables };
  rulesets = w.rulesets;
  rules = w.rules;
  tables = count;
  states = w.states;
  standing = w.standing;
  entries = λ q other. subst AreEntries (sym (tables_replaced (placed_table p name es ∷ []) d.config.tables q other))
      (cond_both (eq_by_cmp table_order (p, name) (q, other)) es (entries_at d q other) AreEntries (λ _. few) (λ _. w.entries q other));
}

room-within : (d : PlainDurable) (p name : List ℕ) (es : List PlainEntry) → room_for_table d p name es ≡ Ok tt → IsWithin d → length (with_entries d p name es).config.tables ≤ TABLE_COUNT_LIMIT
room-within d p name es h w = by (is_one_more (entries_at d p name) es) refl (not_refused (is_one_more (entries_at d p name) es && nat_lt TABLE_COUNT_LIMIT (length (with_entries d p name es).config.tables)) TooManyTables h) where
  by : (b : Bool) → is_one_more (entries_at d p name) es ≡ b → (b && nat_lt TABLE_COUNT_LIMIT (length (with_entries d p name es).config.tables)) ≡ false → length (with_entries d p name es).config.tables ≤ TABLE_COUNT_LIMIT
  by true is room = grind (arith, nat_tests, room)
  by false is room =
      let less : length (with_entries d p name es).config.tables ≤ length d.config.tables = no-table-more d.config.tables p name es is in
      let before : length d.config.tables ≤ TABLE_COUNT_LIMIT = w.tables in
      omega (arith, less, before)

replaceable-within : (d : PlainDurable) (p name : List ℕ) (es : List PlainEntry) → T (is_sorted net_order es) → replaceable d p name es ≡ Ok tt → IsWithin d → IsWithin (with_entries d p name es)
replaceable-within d p name es order h w =
    let both : AreBothPassed (holdable es) (room_for_table d p name es) tt = both_passed (holdable es) (room_for_table d p name es) tt h in
    let few : nat_lt TABLE_LIMIT (length es) ≡ false = not_refused (nat_lt TABLE_LIMIT (length es)) TableFull both.first in
    table-within d p name es (record { sorted = order; few = grind (arith, nat_tests, few) }) (room-within d p name es both.second w) w

-- what is left of a table adds no table
still-there : (old xs : List PlainEntry) → is_one_more old (deleted old xs) ≡ false
still-there [] xs = ap (λ (es : List PlainEntry). is_one_more [] es) (deleted-none xs)
still-there (e ∷ es) xs =
    let some : (length (e ∷ es) == 0) ≡ false = grind (arith, nat_tests) in
    ap (λ (b : Bool). b && not (length (deleted (e ∷ es) xs) == 0)) some

delete-within : (d : PlainDurable) (p name : List ℕ) (xs : List PlainEntry) → IsWithin d → IsWithin (applied d (deletes p name xs))
delete-within d p name xs w =
    let old : List PlainEntry = entries_at d p name in
    let fewer : length (deleted old xs) ≤ length old = deleted_fewer old xs in
    let before : length old ≤ TABLE_LIMIT = (w.entries p name).few in
    let less : length (with_entries d p name (deleted old xs)).config.tables ≤ length d.config.tables = no-table-more d.config.tables p name (deleted old xs) (still-there old xs) in
    let tables : length d.config.tables ≤ TABLE_COUNT_LIMIT = w.tables in
    table-within d p name (deleted old xs) (record { sorted = sorted_deleted old xs (w.entries p name).sorted; few = omega (arith, fewer, before) }) (omega (arith, less, tables)) w

-- ---- commits

-- of lists that are replaced each is the last one given for its key, or the old one
listed-within : {K X : Type 0} (R : K → K → Ordering) (P : List X → Type 0) (items : List (K × List X)) (k : K) (old : List X) → AllByRecursion (λ e. P e.1) items → P old → P (list_by R items k old)
listed-within R P [] k old each h = h
listed-within R P (e ∷ es) k old each h = listed-within R P es k (cond (eq_by_cmp R e.0 k) e.1 old) each.1 (cond_both (eq_by_cmp R e.0 k) e.1 old P (λ _. each.0) (λ _. h))

commit-within : (d : PlainDurable) (items : List Item) → AreFew items → fits d (commits items) ≡ Ok tt → IsWithin d → IsWithin (applied d (commits items))
commit-within d items each h w =
    let new : PlainConfig = (applied d (commits items)).config in
    let rulesets-few : Result (Unit {0}) ChangeRefusal = unless (nat_lt RULESET_LIMIT (length new.rulesets)) TooManyRulesets in
    let tables-few : Result (Unit {0}) ChangeRefusal = unless (nat_lt TABLE_COUNT_LIMIT (length new.tables)) TooManyTables in
    let both : AreBothPassed rulesets-few tables-few tt =
    both_passed rulesets-few tables-few tt (both_passed (refused_at (λ i. Twice i) (named_again items)) (and_then rulesets-few tables-few) tt h).second in
    let rulesets : nat_lt RULESET_LIMIT (length new.rulesets) ≡ false = not_refused (nat_lt RULESET_LIMIT (length new.rulesets)) TooManyRulesets both.first in
    let tables : nat_lt TABLE_COUNT_LIMIT (length new.tables) ≡ false = not_refused (nat_lt TABLE_COUNT_LIMIT (length new.tables)) TooManyTables both.second in
    record {
      maps = (replaces_exactly d items w.maps).maps;
      rulesets = grind (arith, nat_tests, rulesets);
      rules = λ p. subst (λ (rs : List PlainRule). length rs ≤ RULE_LIMIT) (sym ((replaces_exactly d items w.maps).rules p))
          (listed-within path_order (λ (rs : List PlainRule). length rs ≤ RULE_LIMIT) (rulesets_in items) p (rules_at p d.config.rulesets) each.rules (w.rules p));
      tables = grind (arith, nat_tests, tables);
      entries = λ p name. subst AreEntries (sym ((replaces_exactly d items w.maps).tables p name))
          (listed-within table_order AreEntries (tables_in items) (p, name) (entries_at d p name) each.entries (w.entries p name));
      states = w.states;
      standing = w.standing;
    }

pub keeps_within : KeepsWithin
keeps_within d w = record {
  by_commit = λ items each h. commit-within d items each h w;
  by_add = λ p name xs h.
      let new : List PlainEntry = added (entries_at d p name) xs in
      replaceable-within d p name new (sorted_added (entries_at d p name) xs (w.entries p name).sorted) (both_passed (no_conflict xs) (replaceable d p name new) tt h).second w;
  by_delete = λ p name xs. delete-within d p name xs w;
  by_set = λ p name xs h. replaceable-within d p name (replaced xs) (sorted_added [] xs tt) (both_passed (no_conflict xs) (replaceable d p name (replaced xs)) tt h).second w;
  by_steps = λ steps h.
      let both : AreBothPassed (unless (any_inserts_due d.tick steps) BadTick) (unless (passes_limit d.states steps) StatesFull) tt =
      both_passed (unless (any_inserts_due d.tick steps) BadTick) (unless (passes_limit d.states steps) StatesFull) tt h in
      record {
        maps = w.maps;
        rulesets = w.rulesets;
        rules = w.rules;
        tables = w.tables;
        entries = w.entries;
        states = (stays_states d.states steps).table w.states (not_refused (passes_limit d.states steps) StatesFull both.second);
        standing = stand_after d.states d.tick steps w.standing (not_refused (any_inserts_due d.tick steps) BadTick both.first);
      };
  by_removal = λ name. record {
    maps = w.maps;
    rulesets = w.rulesets;
    rules = w.rules;
    tables = w.tables;
    entries = w.entries;
    states = states_deleted d.states name w.states;
    standing = stand_without d.states d.tick name w.standing;
  };
  by_tick = λ tick. record {
    maps = w.maps;
    rulesets = w.rulesets;
    rules = w.rules;
    tables = w.tables;
    entries = w.entries;
    states = states_due d.states tick w.states;
    standing = left_stand d.states tick;
  };
}
