-- What is held is within all limits.
use Rattle.std.proofs.{Common.{◌≤◌, ℕ, List, [], ◌∷◌, ◌++◌, length, map, sym, subst, inl, inr, arith}, lemmas.{List.length-map, Bool.Decides.nat_tests}}
use Rattle.std.specs.{List.AllByRecursion}
use Rattle.pf_form.specs.Bytes.{Forms.{Value, Fits}}
use Rattle.pf_anchor.specs.declared.limits.TheConstants.{RULE_LIMIT}
use Rattle.pf_core.specs.{Durable.Changes.{PlainDurable, placed, rulesets_in, tables_in}, Laws.Durable.{AreFew, IsWithin}}
use Rattle.pf_core.proofs.Within.{keeps_within}
use Rattle.pf_rule.specs.Sum.Reading.{rule_of}
use Rattle.pf_state.specs.Layouts.{States.name_in, Steps.step_in}
use Rattle.pf_table.specs.{EntryForms.entry_of, Tables.AreEntries}
use Rattle.pf_snap.specs.Banks.{Content}
use Rattle.pf_store.specs.declared.encoding.recorded.Recorded.{Recorded}
use Rattle.pf_store.proofs.DurablesWithin.{durable_within, entries_few}
use Rattle.pf_anchor.specs.Forms.{NamedShape, named_form, named_in, rule_list_form, rules_form}
use Rattle.pf_store.specs.{Groups.{ChangeShape, ItemShape, change_form, defined_form, group_form, item_form, item_in, items_form, plain_record, record_in, tables_form, IsRecorded}, Stores.{FollowInTurn, Follows, left_by, left_by_all, Leads, Makes}}

-- ---- what is read from a commit's bytes

all_after : {A : Type 0} (P : A → Type 0) (xs ys : List A) → AllByRecursion P xs → AllByRecursion P ys → AllByRecursion P (xs ++ ys)
all_after P [] ys one other = other
all_after P (x ∷ xs) ys one other = (one.0, all_after P xs ys one.1 other)

rules_few : (version : ℕ) (vs : List (Value ItemShape)) → AllByRecursion (Fits (item_form version)) vs → AllByRecursion (λ r. length r.1 ≤ RULE_LIMIT) (rulesets_in (map item_in vs))
unfolding item_form rules_form rule_list_form
rules_few version [] each = tt
rules_few version (inl v ∷ vs) each = (grind (arith, nat_tests, length-map v.1 rule_of, each.0.1.1), rules_few version vs each.1)
rules_few version (inr v ∷ vs) each = rules_few version vs each.1

placed_few : (p : List ℕ) (ws : List (Value NamedShape)) → AllByRecursion (Fits named_form) ws → AllByRecursion (λ t. AreEntries t.1) (placed p (map named_in ws))
unfolding named_form
placed_few p [] each = tt
placed_few p (w ∷ ws) each = (entries_few w.1 each.0.1, placed_few p ws each.1)

tables_few : (version : ℕ) (vs : List (Value ItemShape)) → AllByRecursion (Fits (item_form version)) vs → AllByRecursion (λ t. AreEntries t.1) (tables_in (map item_in vs))
unfolding item_form tables_form defined_form
tables_few version [] each = tt
tables_few version (inl v ∷ vs) each = tables_few version vs each.1
tables_few version (inr v ∷ vs) each = all_after (λ t. AreEntries t.1) (placed v.0 (map named_in v.1)) (tables_in (map item_in vs)) (placed_few v.0 v.1 each.0.0.1.0.0.1) (tables_few version vs each.1)

items_few : (version : ℕ) (vs : List (Value ItemShape)) → Fits (items_form version) vs → AreFew (map item_in vs)
unfolding items_form
items_few version vs fits = record { rules = rules_few version vs fits.0.1; entries = tables_few version vs fits.0.1 }

-- ---- what is recorded

read_back_within : (version : ℕ) (d : PlainDurable) (v : Value ChangeShape) → Fits (change_form version) v → Follows d (record_in v) → IsWithin d → IsWithin (left_by d (record_in v))
unfolding change_form
read_back_within version d (inl vs) fits follows within = (keeps_within d within).by_commit (map item_in vs) (items_few version vs fits) follows
read_back_within version d (inr (inl v)) fits follows within = (keeps_within d within).by_add v.0 v.1.0 (map entry_of v.1.1) follows
read_back_within version d (inr (inr (inl v))) fits follows within = (keeps_within d within).by_delete v.0 v.1.0 (map entry_of v.1.1)
read_back_within version d (inr (inr (inr (inl v)))) fits follows within = (keeps_within d within).by_set v.0 v.1.0 (map entry_of v.1.1) follows
read_back_within version d (inr (inr (inr (inr (inl steps))))) fits follows within = (keeps_within d within).by_steps (map step_in steps) follows
read_back_within version d (inr (inr (inr (inr (inr (inl name)))))) fits follows within = (keeps_within d within).by_removal (name_in name)
read_back_within version d (inr (inr (inr (inr (inr (inr (inl epoch))))))) fits follows within = record {
  maps = within.maps;
  rulesets = within.rulesets;
  rules = within.rules;
  tables = within.tables;
  entries = within.entries;
  states = within.states;
  standing = within.standing;
}
read_back_within version d (inr (inr (inr (inr (inr (inr (inr tick))))))) fits follows within = (keeps_within d within).by_tick tick

group_within : (version : ℕ) (d : PlainDurable) (vs : List (Value ChangeShape)) → AllByRecursion (Fits (change_form version)) vs → FollowInTurn d (map record_in vs) → IsWithin d → IsWithin (left_by_all d (map record_in vs))
group_within version d [] each follows within = within
group_within version d (v ∷ vs) each follows within = group_within version (left_by d (record_in v)) vs each.1 follows.1 (read_back_within version d v each.0 follows.0 within)

recorded_within : (version : ℕ) (d : PlainDurable) (xs : List Recorded) (payload : List ℕ) → IsRecorded version xs payload → FollowInTurn d xs → IsWithin d → IsWithin (left_by_all d xs)
unfolding group_form
recorded_within version d xs payload is follows within =
    subst (λ (ys : List Recorded). IsWithin (left_by_all d ys)) (sym is.read_back) (group_within version d (map plain_record xs) is.spelled.fits.0.1 (subst (FollowInTurn d) is.read_back follows) within)

led_within : (version : ℕ) (d : PlainDurable) (ps : List (List ℕ)) (e : PlainDurable) → Leads version d ps e → IsWithin d → IsWithin e
led_within version d [] e led within = subst IsWithin led within
led_within version d (p ∷ ps) e led within = led_within version (left_by_all d led.0) ps e led.3 (recorded_within version d led.0 p led.1 led.2 within)

pub made_within : (content : Content) (d : PlainDurable) → Makes content d → IsWithin d
made_within content d makes = led_within content.version makes.first content.payloads d makes.leads (durable_within content.version makes.first content.snapshot makes.kept)
