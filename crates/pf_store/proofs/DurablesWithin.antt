-- What has a snapshot is within all limits.
use Rattle.std.proofs.{Common.{◌≡◌, ◌≢◌, ◌≤◌, ◌&&◌, ◌||◌, not, cond, ℕ, Bool, true, false, List, [], ◌∷◌, length, map, Some, refl, sym, ap, ◌∙◌, subst, true≢false, arith}, lemmas.{List.length-map, Bool.{and_parts, Decides.nat_tests}, Cmp.nat_list_cmp_total}}
use Rattle.std.specs.{Prelude.nat_le, declared.cmp.Ordering.Ordering, FinMap.find, List.{list_all, list_any, AllByRecursion}, Option.unwrap_or, Ordering.{eq_by_cmp, is_lt}}
use Rattle.pf_addr.specs.Path.Paths.{path_order}
use Rattle.pf_form.specs.Bytes.{Forms.{Value, Fits}, Lists.in_order}
use Rattle.pf_anchor.specs.{declared.limits.TheConstants.{RULE_LIMIT, RULESET_LIMIT, TABLE_COUNT_LIMIT}, Rulesets.IsMap, Tables.{table_order, IsTableMap}}
use Rattle.pf_anchor.proofs.TableMaps.{table_order_total}
use Rattle.pf_core.specs.{Durable.Changes.PlainDurable, Laws.Durable.IsWithin}
use Rattle.pf_rule.specs.{Rules.PlainRule, Sum.Reading.rule_of}
use Rattle.pf_state.specs.{declared.{limits.TheConstants.STATE_LIMIT, state.Held.Held, state.StateName.StateName}, Flows.same_flow, Orders.name_total, States.{PlainState, stands, all_stand, name_order, held_at, IsStates}, Layouts.States.{StateShape, states_form, state_before, state_in, no_flow_twice}}
use Rattle.pf_state.proofs.{Flows.same_back, Names.one_name, Tables.nothing_is}
use Rattle.pf_table.specs.{EntryForms.{EntryShape, entry_of, entry_before}, Tables.AreEntries}
use Rattle.pf_addr.specs.{NetOrder.net_order, Laws.NetOrder.net_total}
use Rattle.pf_map.specs.ListMaps.{list_at, list_in}
use Rattle.pf_store.proofs.InOrder.{sorted_of}
use Rattle.pf_anchor.specs.Forms.{at_most, RulesShape, rules_form, rule_list_form, named_form, entries_form, has_some, rulesets_form, PlacedShape, placed_form, kept_tables_form, ruled_in, tabled_in}
use Rattle.pf_core.specs.Durable.Forms.{DurableShape, durable_form, plain_durable, durable_in}
use Rattle.pf_store.specs.Durables.{IsDurable}
use Rattle.pf_store.proofs.Durables.{some_mapped, seen_in_order}

-- ---- what is found in a map of lists

module _ {K X : Type 0} (R : K → K → Ordering) where
  -- what is true of each list, and of the empty one, is true of the one that is found
  listed : (P : List X → Type 0) (es : List (K × List X)) (k : K) → AllByRecursion (λ e. P e.1) es → P [] → P (list_at R k es)
  listed P [] k each none = none
  listed P (e ∷ es) k each none = by (eq_by_cmp R k e.0) (listed P es k each.1 none) where
    by : (t : Bool) → P (list_in (find R k es)) → P (list_in (cond t (Some e.1) (find R k es)))
    by true rest = each.0
    by false rest = rest

  pub filled : (es : List (K × List X)) → list_all (λ e. has_some e.1) es ≡ true → (k : K) → find R k es ≢ Some []
  filled [] some k there = cc (there)
  filled (e ∷ es) some k there = by (eq_by_cmp R k e.0) there (λ later. filled es parts.1 k later) where
    parts : (has_some e.1 ≡ true) × (list_all (λ x. has_some x.1) es ≡ true)
    parts = and_parts (has_some e.1) (list_all (λ x. has_some x.1) es) some

    by : (t : Bool) → cond t (Some e.1) (find R k es) ≡ Some [] → (find R k es ≡ Some [] → ⊥) → ⊥
    by true here rest = true≢false (sym parts.0 ∙ ap (λ (xs : List X). has_some xs) (ap (λ o. unwrap_or o e.1) here))
    by false later rest = rest later

-- ---- rulesets

some_rules : (vs : List (Value RulesShape)) → list_all (λ r. has_some r.1) (map ruled_in vs) ≡ list_all (λ v. has_some v.1) vs
some_rules [] = refl
some_rules (v ∷ vs) = rw (some_mapped rule_of v.1, some_rules vs) refl

are_rulesets_map : (version : ℕ) (vs : List (Value RulesShape)) → Fits (rulesets_form version) vs → IsMap (map ruled_in vs)
unfolding rulesets_form
are_rulesets_map version vs fits = record {
  sorted = sorted_of nat_list_cmp_total (map ruled_in vs) (seen_in_order (λ a b. is_lt (path_order a.0 b.0)) ruled_in vs ∙ fits.0.1);
  filled = filled path_order (map ruled_in vs) (some_rules vs ∙ (and_parts (at_most RULESET_LIMIT vs) (list_all (λ r. has_some r.1) vs) fits.1).1);
}

rules_each : (version : ℕ) (vs : List (Value RulesShape)) → AllByRecursion (Fits (rules_form version)) vs → AllByRecursion (λ r. length r.1 ≤ RULE_LIMIT) (map ruled_in vs)
unfolding rules_form rule_list_form
rules_each version [] each = tt
rules_each version (v ∷ vs) each = (grind (arith, nat_tests, length-map v.1 rule_of, each.0.1.1), rules_each version vs each.1)

rulesets_few : (version : ℕ) (vs : List (Value RulesShape)) → Fits (rulesets_form version) vs → length (map ruled_in vs) ≤ RULESET_LIMIT
unfolding rulesets_form
rulesets_few version vs fits = grind (arith, nat_tests, length-map vs ruled_in, (and_parts (at_most RULESET_LIMIT vs) (list_all (λ r. has_some r.1) vs) fits.1).0)

rules_few_at : (version : ℕ) (vs : List (Value RulesShape)) → Fits (rulesets_form version) vs → (p : List ℕ) → length (list_at path_order p (map ruled_in vs)) ≤ RULE_LIMIT
unfolding rulesets_form
rules_few_at version vs fits p = listed path_order (λ (rs : List PlainRule). length rs ≤ RULE_LIMIT) (map ruled_in vs) p (rules_each version vs fits.0.0.1) (omega arith)

-- ---- tables

read_back_in_order : (es : List (Value EntryShape)) → in_order entry_before es ≡ true → in_order (λ a b. is_lt (net_order a.0 b.0)) (map entry_of es) ≡ true
read_back_in_order [] is = refl
read_back_in_order (e ∷ []) is = refl
read_back_in_order (e ∷ f ∷ es) is = by (entry_before e f) is (read_back_in_order (f ∷ es)) where
  by : (b : Bool) → (b && in_order entry_before (f ∷ es)) ≡ true → (in_order entry_before (f ∷ es) ≡ true → in_order (λ a c. is_lt (net_order a.0 c.0)) (map entry_of (f ∷ es)) ≡ true) → (b && in_order (λ a c. is_lt (net_order a.0 c.0)) (map entry_of (f ∷ es))) ≡ true
  by true h rest = rest h
  by false h rest = absurd (cc (h))

pub entries_few : (es : List (Value EntryShape)) → Fits entries_form es → AreEntries (map entry_of es)
unfolding entries_form
entries_few es fits = record {
  sorted = sorted_of net_total (map entry_of es) (read_back_in_order es fits.0.1);
  few = grind (arith, nat_tests, length-map es entry_of, fits.1);
}

some_entries : (vs : List (Value PlacedShape)) → list_all (λ t. has_some t.1) (map tabled_in vs) ≡ list_all (λ v. has_some v.1.1) vs
some_entries [] = refl
some_entries (v ∷ vs) = rw (some_mapped entry_of v.1.1, some_entries vs) refl

are_tables_map : (vs : List (Value PlacedShape)) → Fits kept_tables_form vs → IsTableMap (map tabled_in vs)
unfolding kept_tables_form
are_tables_map vs fits = record {
  sorted = sorted_of table_order_total (map tabled_in vs) (seen_in_order (λ a b. is_lt (table_order a.0 b.0)) tabled_in vs ∙ fits.0.1);
  filled = filled table_order (map tabled_in vs) (some_entries vs ∙ (and_parts (at_most TABLE_COUNT_LIMIT vs) (list_all (λ t. has_some t.1.1) vs) fits.1).1);
}

entries_each : (vs : List (Value PlacedShape)) → AllByRecursion (Fits placed_form) vs → AllByRecursion (λ t. AreEntries t.1) (map tabled_in vs)
unfolding placed_form named_form
entries_each [] each = tt
entries_each (v ∷ vs) each = (entries_few v.1.1 each.0.1.1, entries_each vs each.1)

tables_few : (vs : List (Value PlacedShape)) → Fits kept_tables_form vs → length (map tabled_in vs) ≤ TABLE_COUNT_LIMIT
unfolding kept_tables_form
tables_few vs fits = grind (arith, nat_tests, length-map vs tabled_in, (and_parts (at_most TABLE_COUNT_LIMIT vs) (list_all (λ t. has_some t.1.1) vs) fits.1).0)

entries_few_at : (vs : List (Value PlacedShape)) → Fits kept_tables_form vs → (p name : List ℕ) → AreEntries (list_at table_order (p, name) (map tabled_in vs))
unfolding kept_tables_form
entries_few_at vs fits p name = listed table_order AreEntries (map tabled_in vs) (p, name) (entries_each vs fits.0.0.1) (record { sorted = tt; few = omega arith })

-- ---- states

-- a flow that none of the states has isn't found
elsewhere : (es : List PlainState) (h : Held) (n : StateName) (x : Held) → not (list_any (λ t. same_flow h.flow t.1.flow) es) ≡ true → held_at n es ≡ Some x
    → same_flow h.flow x.flow ≡ true → ⊥
elsewhere [] h n x none there same = nothing_is x there
elsewhere (e ∷ es) h n x none there same =
    by (eq_by_cmp name_order n e.0) there (λ later. elsewhere es h n x (none_left (same_flow h.flow e.1.flow) none) later same) where
      none_left : (b : Bool) → not (b || list_any (λ t. same_flow h.flow t.1.flow) es) ≡ true → not (list_any (λ t. same_flow h.flow t.1.flow) es) ≡ true
      none_left true is = absurd (true≢false (sym is))
      none_left false is = is

      by : (t : Bool) → cond t (Some e.1) (held_at n es) ≡ Some x → (held_at n es ≡ Some x → ⊥) → ⊥
      by true here rest =
          let held : x ≡ e.1 = sym (ap (λ o. unwrap_or o x) here) in
          true≢false (sym none ∙ rw (subst (λ (k : Held). same_flow h.flow k.flow ≡ true) held same) refl)
      by false later rest = rest later

one_flow : (es : List PlainState) → no_flow_twice es ≡ true → (a b : StateName) (x y : Held) → held_at a es ≡ Some x → held_at b es ≡ Some y
    → same_flow x.flow y.flow ≡ true → a ≡ b
one_flow [] once a b x y at_a at_b same = nothing_is x at_a
one_flow (s ∷ es) once a b x y at_a at_b same =
    by (eq_by_cmp name_order a s.0) refl (eq_by_cmp name_order b s.0) refl at_a at_b (λ here there. one_flow es parts.1 a b x y here there same) where
      parts : (not (list_any (λ t. same_flow s.1.flow t.1.flow) es) ≡ true) × (no_flow_twice es ≡ true)
      parts = and_parts (not (list_any (λ t. same_flow s.1.flow t.1.flow) es)) (no_flow_twice es) once

      by : (p : Bool) → eq_by_cmp name_order a s.0 ≡ p → (q : Bool) → eq_by_cmp name_order b s.0 ≡ q → cond p (Some s.1) (held_at a es) ≡ Some x
          → cond q (Some s.1) (held_at b es) ≡ Some y → (held_at a es ≡ Some x → held_at b es ≡ Some y → a ≡ b) → a ≡ b
      by true is_a true is_b here there rest = one_name a s.0 is_a ∙ sym (one_name b s.0 is_b)
      by true is_a false is_b here there rest =
          let held : s.1 ≡ x = ap (λ o. unwrap_or o x) here in
          absurd (elsewhere es s.1 b y parts.0 there (subst (λ (h : Held). same_flow h.flow y.flow ≡ true) (sym held) same))
      by false is_a true is_b here there rest =
          let held : s.1 ≡ y = ap (λ o. unwrap_or o y) there in
          absurd (elsewhere es s.1 a x parts.0 here (subst (λ (h : Held). same_flow h.flow x.flow ≡ true) (sym held) (same_back x.flow y.flow same)))
      by false is_a false is_b here there rest = rest here there

are_states : (version : ℕ) (vs : List (Value StateShape)) → Fits (states_form version) vs → IsStates (map state_in vs)
are_states version vs fits =
    let ordered = and_parts (nat_le (length vs) STATE_LIMIT) (in_order state_before vs && no_flow_twice (map state_in vs)) fits.1 in
    let apart = and_parts (in_order state_before vs) (no_flow_twice (map state_in vs)) ordered.1 in
    record {
      names = record {
        sorted = sorted_of name_total (map state_in vs) (seen_in_order (λ a b. is_lt (name_order a.0 b.0)) state_in vs ∙ apart.0);
        one_flow = one_flow (map state_in vs) apart.1;
      };
      few = grind (arith, nat_tests, length-map vs state_in, ordered.0);
    }

-- states as their data say
all_seen : (tick : ℕ) (vs : List (Value StateShape)) → all_stand tick (map state_in vs) ≡ list_all (λ v. stands tick (state_in v).1) vs
all_seen tick [] = refl
all_seen tick (v ∷ vs) = ap (λ b. stands tick (state_in v).1 && b) (all_seen tick vs)

-- ---- all of it

data_within : (version : ℕ) (v : Value DurableShape) → Fits (durable_form version) v → IsWithin (durable_in v)
unfolding durable_form
data_within version v fits = record {
  maps = record { rulesets = are_rulesets_map version v.1.1.0 fits.0.1.1.0; tables = are_tables_map v.1.1.1.0 fits.0.1.1.1.0 };
  rulesets = rulesets_few version v.1.1.0 fits.0.1.1.0;
  rules = rules_few_at version v.1.1.0 fits.0.1.1.0;
  tables = tables_few v.1.1.1.0 fits.0.1.1.1.0;
  entries = entries_few_at v.1.1.1.0 fits.0.1.1.1.0;
  states = are_states version v.1.1.1.1 fits.0.1.1.1.1;
  standing = all_seen v.1.0 v.1.1.1.1 ∙ fits.1;
}

pub durable_within : (version : ℕ) (d : PlainDurable) (bytes : List ℕ) → IsDurable version d bytes → IsWithin d
durable_within version d bytes is = subst IsWithin (sym is.read_back) (data_within version (plain_durable d) is.spelled.fits)
