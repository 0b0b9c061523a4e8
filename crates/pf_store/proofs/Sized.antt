-- How many bytes what is kept takes: of a record the same in each version, and part by part.
use Rattle.std.proofs.{Common.{◌≡◌, ◌+◌, ◌*◌, ◌==◌, ◌||◌, ℕ, Bool, true, false, Option, Some, None, List, [], ◌∷◌, length, map, refl, ap, ◌∙◌, arith}, lemmas.Bool.and_parts, lemmas.List.Sums.sum_by-cons}
use Rattle.std.specs.{Prelude.is_none, List.{list_all, sum_by}}
use Rattle.pf_addr.specs.Path.PathForms.{path_form, table_name_form}
use Rattle.pf_form.specs.{Bytes.Forms.{counted, length_of}, Laws.Bytes.Lengths.length_is}
use Rattle.pf_snap.specs.declared.header.TheConstants.{NEWEST}
use Rattle.pf_rule.specs.{declared.rule.Effect.Effect, Rules.PlainRule, Sum.{Forms.effect_byte, Layouts.{label_form, named, plain_ending, rule_layout, plain_rule, has_labels, allows}}}
use Rattle.pf_table.specs.{Entries.PlainEntry, EntryForms.{entry, plain_entry}, Laws.EntryForms.entry_long}
use Rattle.pf_anchor.specs.Forms.{rule_list_form, rules_form, rulesets_form, kept_tables_form, plain_ruled, allows_rules, allows_ruleset, allows_config, named_form, plain_named, plain_entries}
use Rattle.pf_anchor.specs.Rulesets.{PlainPlaced}
use Rattle.pf_state.specs.{declared.step.StateStep.{StateStep, TheVariants.{Insert, Delete, Clear}}, States.PlainState, Layouts.{States.{has_expiry, held_form, state_form, plain_state, plain_states}, Steps.{step_form, plain_step}}}
use Rattle.pf_core.specs.{declared.durable.change.Item.Item, Durable.{Changes.{PlainDurable, commits, adds, deletes, sets, acts, removes, expires, kept_nothing}, Forms.{tick_form, durable_form, plain_durable, durable_length}}, Worlds.raised}
use Rattle.pf_core.specs.declared.durable.change.Item.TheVariants as item
use Rattle.pf_ticket.specs.NamedTables.{PlainDefinedTable}
use Rattle.pf_store.specs.{declared.encoding.recorded.Recorded.{Recorded, TheVariants.Made as made, TheVariants.Opens as opens}, Durables.IsDurable, Groups.{allows_item, allows_record, allows_group, IsRecorded, item_form, plain_item, items_form, defined_form, tables_form, edit_form, expire_form, change_form, group_form, plain_record}, Lengths.{total, snapshot_length, item_length, named_length, edit_length, step_length, recorded_length, payload_length}, Stores.{IsRoomy, HasSpare}}
use Rattle.pf_state.proofs.Expiries.{expiry_long}
use Rattle.pf_store.proofs.Allowing.{recorded_allowed}

-- ---- in each version

-- without labels they take as many bytes as with them, if there are none
ending_long : (labels anchors : Bool) (e : Effect) (label : Option (List ℕ)) → (labels || is_none label) ≡ true
    → length_of (named labels anchors) (plain_ending e label) ≡ length_of (named true anchors) (plain_ending e label)
unfolding named label_form
ending_long true anchors e label allowed = refl
ending_long false true e label allowed = refl
ending_long false false e None allowed = refl
ending_long false false e (Some label) allowed = absurd cc

rule_long : (version : ℕ) (r : PlainRule) → allows version r ≡ true → length_of (rule_layout version) (plain_rule r) ≡ length_of (rule_layout NEWEST) (plain_rule r)
unfolding rule_layout
rule_long version r allowed = omega (arith, ending_long (has_labels version) (effect_byte r.effect == 2) r.effect r.label allowed)

rules_long : (version : ℕ) (rs : List PlainRule) → allows_rules version rs ≡ true
    → sum_by (length_of (rule_layout version)) (map plain_rule rs) ≡ sum_by (length_of (rule_layout NEWEST)) (map plain_rule rs)
rules_long version [] all = refl
rules_long version (r ∷ rs) all =
    let both = and_parts (allows version r) (allows_rules version rs) all in
    omega (
      arith,
      sum_by-cons (length_of (rule_layout version)) (plain_rule r) (map plain_rule rs),
      sum_by-cons (length_of (rule_layout NEWEST)) (plain_rule r) (map plain_rule rs),
      rule_long version r both.0,
      rules_long version rs both.1,
    )

ruleset_long : (version : ℕ) (r : PlainPlaced) → allows_ruleset version r ≡ true → length_of (rules_form version) (plain_ruled r) ≡ length_of (rules_form NEWEST) (plain_ruled r)
unfolding rules_form rule_list_form
ruleset_long version r all = omega (arith, rules_long version r.1 all)

rulesets_long : (version : ℕ) (rs : List PlainPlaced) → list_all (allows_ruleset version) rs ≡ true
    → sum_by (length_of (rules_form version)) (map plain_ruled rs) ≡ sum_by (length_of (rules_form NEWEST)) (map plain_ruled rs)
rulesets_long version [] all = refl
rulesets_long version (r ∷ rs) all =
    let both = and_parts (allows_ruleset version r) (list_all (allows_ruleset version) rs) all in
    omega (
      arith,
      sum_by-cons (length_of (rules_form version)) (plain_ruled r) (map plain_ruled rs),
      sum_by-cons (length_of (rules_form NEWEST)) (plain_ruled r) (map plain_ruled rs),
      ruleset_long version r both.0,
      rulesets_long version rs both.1,
    )

-- a state takes as many bytes in each version
state_long : (version : ℕ) (s : PlainState) → length_of (state_form version) (plain_state s) ≡ length_of (state_form NEWEST) (plain_state s)
unfolding state_form held_form
state_long version s = omega (arith, expiry_long (has_expiry version) s.1.expiry, expiry_long (has_expiry NEWEST) s.1.expiry)

states_long : (version : ℕ) (ss : List PlainState) → sum_by (length_of (state_form version)) (plain_states ss) ≡ sum_by (length_of (state_form NEWEST)) (plain_states ss)
states_long version [] = refl
states_long version (s ∷ ss) =
    omega (
      arith,
      sum_by-cons (length_of (state_form version)) (plain_state s) (plain_states ss),
      sum_by-cons (length_of (state_form NEWEST)) (plain_state s) (plain_states ss),
      state_long version s,
      states_long version ss,
    )

tick_long : (has : Bool) (tick : ℕ) → has ≡ true → length_of (tick_form has) tick ≡ 8
unfolding tick_form
tick_long true tick is = refl
tick_long false tick is = absurd (cc (is))

no_tick_long : (has : Bool) (tick : ℕ) → has ≡ false → length_of (tick_form has) tick ≡ 0
unfolding tick_form
no_tick_long true tick is = absurd (cc (is))
no_tick_long false tick is = refl

-- a snapshot takes as many bytes in each version with ticks, and eight fewer in one without
pub newest_long : (version : ℕ) (d : PlainDurable) → allows_config version d.config ≡ true → has_expiry version ≡ true → durable_length version d ≡ snapshot_length d
unfolding durable_form rulesets_form
newest_long version d all new =
    omega (
      arith,
      rulesets_long version d.config.rulesets all,
      states_long version d.states,
      tick_long (has_expiry version) d.tick new,
      tick_long (has_expiry NEWEST) d.tick refl,
    )

pub older_long : (version : ℕ) (d : PlainDurable) → allows_config version d.config ≡ true → has_expiry version ≡ false → durable_length version d + 8 ≡ snapshot_length d
unfolding durable_form rulesets_form
older_long version d all old =
    omega (
      arith,
      rulesets_long version d.config.rulesets all,
      states_long version d.states,
      no_tick_long (has_expiry version) d.tick old,
      tick_long (has_expiry NEWEST) d.tick refl,
    )

item_long : (version : ℕ) (i : Item) → allows_item version i ≡ true → length_of (item_form version) (plain_item i) ≡ length_of (item_form NEWEST) (plain_item i)
unfolding item_form
item_long version (item.Rules r) all = omega (arith, ruleset_long version r all)
item_long version (item.Tables p ts) all = refl

each_item_long : (version : ℕ) (items : List Item) → list_all (allows_item version) items ≡ true
    → sum_by (length_of (item_form version)) (map plain_item items) ≡ sum_by (length_of (item_form NEWEST)) (map plain_item items)
each_item_long version [] all = refl
each_item_long version (i ∷ items) all =
    let both = and_parts (allows_item version i) (list_all (allows_item version) items) all in
    omega (
      arith,
      sum_by-cons (length_of (item_form version)) (plain_item i) (map plain_item items),
      sum_by-cons (length_of (item_form NEWEST)) (plain_item i) (map plain_item items),
      item_long version i both.0,
      each_item_long version items both.1,
    )

-- an expiry takes eight bytes in each version
step_long : (version : ℕ) (x : StateStep) → length_of (step_form version) (plain_step x) ≡ length_of (step_form NEWEST) (plain_step x)
unfolding step_form state_form held_form
step_long version (Insert s) = omega (arith, expiry_long (has_expiry version) s.1.expiry, expiry_long (has_expiry NEWEST) s.1.expiry)
step_long version (Delete n) = refl
step_long version (Clear creator) = refl

each_step_long : (version : ℕ) (xs : List StateStep) → sum_by (length_of (step_form version)) (map plain_step xs) ≡ sum_by (length_of (step_form NEWEST)) (map plain_step xs)
each_step_long version [] = refl
each_step_long version (x ∷ xs) =
    omega (
      arith,
      sum_by-cons (length_of (step_form version)) (plain_step x) (map plain_step xs),
      sum_by-cons (length_of (step_form NEWEST)) (plain_step x) (map plain_step xs),
      step_long version x,
      each_step_long version xs,
    )

expire_long : (has : Bool) (tick : ℕ) → has ≡ true → length_of (expire_form has) tick ≡ length_of (expire_form (has_expiry NEWEST)) tick
unfolding expire_form
expire_long true tick is = refl
expire_long false tick is = absurd (cc (is))

same_record : (version : ℕ) (r : Recorded) → allows_record version r ≡ true → length_of (change_form version) (plain_record r) ≡ recorded_length r
unfolding change_form items_form step_form state_form held_form
same_record version (made (commits items)) all = omega (arith, each_item_long version items all)
same_record version (made (adds p name xs)) all = refl
same_record version (made (deletes p name xs)) all = refl
same_record version (made (sets p name xs)) all = refl
same_record version (made (acts steps)) all = omega (arith, each_step_long version steps)
same_record version (made (removes name)) all = refl
same_record version (made (expires tick)) all = expire_long (has_expiry version) tick all
same_record version (opens epoch) all = refl

pub snapshot_long : (version : ℕ) (d : PlainDurable) (bytes : List ℕ) → IsDurable version d bytes → length bytes ≡ durable_length version d
snapshot_long version d bytes is = ap length is.spelled.written ∙ length_is (durable_form version) (plain_durable d)

records_long : (version : ℕ) (rs : List Recorded) → allows_group version rs ≡ true → sum_by (length_of (change_form version)) (map plain_record rs) ≡ total recorded_length rs
records_long version [] all = refl
records_long version (r ∷ rs) all =
    let both = and_parts (allows_record version r) (allows_group version rs) all in
    omega (arith, sum_by-cons (length_of (change_form version)) (plain_record r) (map plain_record rs), same_record version r both.0, records_long version rs both.1)

pub payload_long : (version : ℕ) (rs : List Recorded) (payload : List ℕ) → IsRecorded version rs payload → length payload ≡ payload_length rs
unfolding group_form
payload_long version rs payload is =
    ap length is.spelled.written ∙ length_is (group_form version) (map plain_record rs) ∙ ap (λ (n : ℕ). 1 + n) (records_long version rs (recorded_allowed version rs payload is))

pub opening_long : (epoch : ℕ) → payload_length (opens epoch ∷ []) ≡ 6
unfolding change_form
opening_long epoch = refl

pub nothing_long : (epoch : ℕ) → snapshot_length (kept_nothing epoch) ≡ 24
unfolding durable_form tick_form rulesets_form kept_tables_form
nothing_long epoch = refl

-- the next epoch takes no more bytes
raised_long : (d : PlainDurable) → snapshot_length (raised d) ≡ snapshot_length d
unfolding durable_form
raised_long d = refl

-- what a save leaves is enough
pub spare_roomy : (size : ℕ) (d : PlainDurable) → HasSpare size d → IsRoomy size d
spare_roomy size d spare = omega (arith, spare)

pub raised_roomy : (size : ℕ) (d : PlainDurable) → IsRoomy size d → IsRoomy size (raised d)
raised_roomy size d roomy = omega (arith, raised_long d, roomy)

-- ---- part by part

-- ones add up to the length
ones : (bytes : List ℕ) → sum_by (λ b. 1) bytes ≡ length bytes
ones [] = refl
ones (b ∷ bytes) = omega (arith, sum_by-cons (λ b. 1) b bytes, ones bytes)

summed : {A B : Type 0} (measure : B → ℕ) (plain : A → B) (xs : List A) → sum_by measure (map plain xs) ≡ total (λ x. measure (plain x)) xs
summed measure plain [] = refl
summed measure plain (x ∷ xs) = omega (arith, sum_by-cons measure (plain x) (map plain xs), summed measure plain xs)

entries_long : (es : List PlainEntry) → sum_by (length_of entry) (plain_entries es) ≡ 20 * length es
entries_long [] = refl
entries_long (e ∷ es) = omega (arith, sum_by-cons (length_of entry) (plain_entry e) (plain_entries es), entry_long e, entries_long es)

pub edit_long : (p name : List ℕ) (es : List PlainEntry) → edit_length p name es ≡ 6 + length p + length name + 20 * length es
unfolding edit_form path_form table_name_form
edit_long p name es = omega (arith, ones p, ones name, entries_long es)

pub tables_long : (p : List ℕ) (ts : List PlainDefinedTable) → length_of tables_form (p, map plain_named ts) ≡ 5 + length p + total named_length ts
unfolding tables_form defined_form path_form
tables_long p ts = omega (arith, ones p, summed (length_of named_form) plain_named ts)

pub items_long : (items : List Item) → length_of (items_form NEWEST) (map plain_item items) ≡ 1 + total item_length items
unfolding items_form
items_long items = omega (arith, summed (length_of (item_form NEWEST)) plain_item items)

pub steps_long : (xs : List StateStep) → length_of (counted 4 (step_form NEWEST)) (map plain_step xs) ≡ 4 + total step_length xs
steps_long xs = omega (arith, summed (length_of (step_form NEWEST)) plain_step xs)
