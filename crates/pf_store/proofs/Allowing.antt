-- Which versions allow what is held: what the bytes of a version say, that version allows.
use Rattle.std.proofs.{Common.{◌≡◌, ◌&&◌, ◌||◌, ◌==◌, ℕ, ◌<◌, ◌≤◌, Bool, true, false, List, [], ◌∷◌, map, refl, sym, ap, ◌∙◌, subst, inl, inr, arith}, lemmas.Bool.eq-eqb, lemmas.List.Elements.{All-head, All-tail}}
use Rattle.std.specs.{Prelude.{All, is_none, ◌⊎◌, if◌then◌else◌}, List.{list_all, AllByRecursion}}
use Rattle.pf_form.specs.Bytes.Forms.{Value, Fits}
use Rattle.pf_state.specs.{declared.step.StateStep.{StateStep, TheVariants.{Insert, Delete, Clear}}, Layouts.{States.{StateShape, has_expiry, state_form, state_in, all_allowed}, Steps.{StepShape, step_form, step_in, allows_step, allows_steps}}}
use Rattle.pf_state.proofs.Expiries.{all_allowed_is, data_is_allowed, data_of_step_is_allowed}
use Rattle.pf_rule.specs.{Rules.{PlainRule, IsRule}, Sum.{Layouts.{EndingShape, RuleShape, label_form, named, rule_layout, plain_rule, has_labels, allows}, Reading.{label_of, rule_of}}}
use Rattle.pf_rule.proofs.RuleBytes.{fits_allowed}
use Rattle.pf_anchor.specs.{Forms.{RulesShape, rule_list_form, rules_form, rulesets_form, plain_ruled, ruled_in, allows_rules, allows_ruleset}, Rulesets.{PlainPlaced}}
use Rattle.pf_core.specs.Durable.{Changes.{PlainDurable, PlainChange, commits, adds, deletes, sets, acts, removes, expires}, Forms.{DurableShape, tick_form, durable_form, plain_durable, durable_in}}
use Rattle.pf_core.specs.Durable.Forms.{allows as allows_durable}
use Rattle.pf_core.specs.declared.durable.change.Item.{Item}
use Rattle.pf_core.specs.declared.durable.change.Item.TheVariants as item
use Rattle.pf_snap.specs.declared.header.TheConstants.{NEWEST}
use Rattle.pf_store.specs.declared.encoding.recorded.Recorded.{Recorded, TheVariants.Made as made}
use Rattle.pf_store.specs.{Durables.IsDurable, Groups.{ChangeShape, ItemShape, expire_form, change_form, group_form, item_form, item_in, items_form, plain_record, record_in, allows_item, allows_record, allows_group, made_all, IsRecorded}}

-- ---- a rule

-- without labels there is none
ending_allowed : (labels anchors : Bool) (x : Value EndingShape) → Fits (named labels anchors) x → (labels || is_none (label_of x.1)) ≡ true
unfolding named label_form
ending_allowed true anchors x fits = refl
ending_allowed false true x fits = ap (λ l. is_none (label_of l)) fits.1
ending_allowed false false x fits = ap (λ l. is_none (label_of l)) fits.1

pub rule_allowed : (version : ℕ) (v : Value RuleShape) → Fits (rule_layout version) v → allows version (rule_of v) ≡ true
unfolding rule_layout rule_of
rule_allowed version v fits = ending_allowed (has_labels version) (v.0 == 2) v.1.1.1.1.1.1.1.1.1 fits.1.1.1.1.1.1.1.1.1

rules_allowed : (version : ℕ) (vs : List (Value RuleShape)) → AllByRecursion (Fits (rule_layout version)) vs → allows_rules version (map rule_of vs) ≡ true
rules_allowed version [] each = refl
rules_allowed version (v ∷ vs) each = rw (rule_allowed version v each.0) (rules_allowed version vs each.1)

pub ruleset_allowed : (version : ℕ) (v : Value RulesShape) → Fits (rules_form version) v → allows_ruleset version (ruled_in v) ≡ true
unfolding rules_form rule_list_form
ruleset_allowed version v fits = rules_allowed version v.1 fits.1.0.1

rulesets_allowed : (version : ℕ) (vs : List (Value RulesShape)) → AllByRecursion (Fits (rules_form version)) vs → list_all (allows_ruleset version) (map ruled_in vs) ≡ true
rulesets_allowed version [] each = refl
rulesets_allowed version (v ∷ vs) each = rw (ruleset_allowed version v each.0) (rulesets_allowed version vs each.1)

-- the same of rules as they are kept
kept : (version : ℕ) (rs : List PlainRule) → All IsRule rs → AllByRecursion (Fits (rule_layout version)) (map plain_rule rs) → allows_rules version rs ≡ true
kept version [] are each = refl
kept version (r ∷ rs) are each = rw (fits_allowed version r (All-head IsRule r rs are) each.0) (kept version rs (All-tail IsRule r rs are) each.1)

pub kept_allowed : (version : ℕ) (r : PlainPlaced) → All IsRule r.1 → Fits (rules_form version) (plain_ruled r) → allows_rules version r.1 ≡ true
unfolding rules_form rule_list_form
kept_allowed version r are fits = kept version r.1 are fits.1.0.1

-- versions that have labels allow all
rules_all : (version : ℕ) (rs : List PlainRule) → has_labels version ≡ true → allows_rules version rs ≡ true
rules_all version [] new = refl
rules_all version (r ∷ rs) new = rw (new, rules_all version rs new) refl

rulesets_all : (version : ℕ) (rs : List PlainPlaced) → has_labels version ≡ true → list_all (allows_ruleset version) rs ≡ true
rulesets_all version [] new = refl
rulesets_all version (r ∷ rs) new = rw (rules_all version r.1 new, rulesets_all version rs new) refl

items_all : (version : ℕ) (items : List Item) → has_labels version ≡ true → list_all (allows_item version) items ≡ true
items_all version [] new = refl
items_all version (item.Rules r ∷ items) new = rw (rules_all version r.1 new, items_all version items new) refl
items_all version (item.Tables p named ∷ items) new = items_all version items new

-- versions that have expiries allow all steps
step_all : (version : ℕ) (x : StateStep) → has_expiry version ≡ true → allows_step version x ≡ true
step_all version (Insert s) new = ap (λ (b : Bool). b || (s.1.expiry == 0)) new
step_all version (Delete n) new = refl
step_all version (Clear creator) new = refl

steps_all : (version : ℕ) (xs : List StateStep) → has_expiry version ≡ true → allows_steps version xs ≡ true
steps_all version [] new = refl
steps_all version (x ∷ xs) new = rw (step_all version x new, steps_all version xs new) refl

pub newest_allows : (d : PlainDurable) → allows_durable NEWEST d ≡ true
newest_allows d = rw (rulesets_all NEWEST d.config.rulesets refl) (sym (all_allowed_is NEWEST d.states))

made_in_newest : (es : List PlainChange) → allows_group NEWEST (made_all es) ≡ true
made_in_newest [] = refl
made_in_newest (commits items ∷ es) = rw (items_all NEWEST items refl, made_in_newest es) refl
made_in_newest (adds p name xs ∷ es) = made_in_newest es
made_in_newest (deletes p name xs ∷ es) = made_in_newest es
made_in_newest (sets p name xs ∷ es) = made_in_newest es
made_in_newest (acts steps ∷ es) = rw (steps_all NEWEST steps refl) (made_in_newest es)
made_in_newest (removes name ∷ es) = made_in_newest es
made_in_newest (expires tick ∷ es) = made_in_newest es

-- changes, each as it was handed in
pub allowed_as : {C : Type 0} (as_plain : C → PlainChange) (version : ℕ) (cs : List C)
    → list_all (λ c. allows_record version (made (as_plain c))) cs ≡ allows_group version (made_all (map as_plain cs))
allowed_as as_plain version [] = refl
allowed_as as_plain version (c ∷ cs) = ap (λ b. allows_record version (made (as_plain c)) && b) (allowed_as as_plain version cs)

pub newest_allows_group : (es : List PlainChange) → allows_group NEWEST (made_all es) ≡ true
newest_allows_group = made_in_newest

-- where they are added: to the bank that counts only if its version allows them, and otherwise to the other one, in the newest version
pub allowed_there : (here : Bool) (own : ℕ) (es : List PlainChange) → (here ≡ true → allows_group own (made_all es) ≡ true)
    → allows_group (if here then own else NEWEST) (made_all es) ≡ true
allowed_there true own es is = is refl
allowed_there false own es is = newest_allows_group es

-- they aren't added to the bank that counts if its version doesn't allow them, or if it has no room
pub elsewhere : (here allowed : Bool) (needed room : ℕ) → (here ≡ true → (allowed ≡ true) × (needed ≤ room)) → (allowed ≡ false) ⊎ (room < needed) → here ≡ false
elsewhere false allowed needed room is why = refl
elsewhere true allowed needed room is why = by (is refl) why where
  by : (allowed ≡ true) × (needed ≤ room) → (allowed ≡ false) ⊎ (room < needed) → true ≡ false
  by both (inl refused) = sym both.0 ∙ refused
  by both (inr less) = absurd (omega (arith, less, both.1))

-- ---- a snapshot

tick_allowed : (has : Bool) (tick : ℕ) → Fits (tick_form has) tick → (has || (tick == 0)) ≡ true
unfolding tick_form
tick_allowed true tick fits = refl
tick_allowed false tick fits = eq-eqb tick 0 fits

states_allowed : (version : ℕ) (vs : List (Value StateShape)) → AllByRecursion (Fits (state_form version)) vs → all_allowed version (map state_in vs) ≡ true
states_allowed version [] each = refl
states_allowed version (v ∷ vs) each = rw (data_is_allowed version v each.0) (states_allowed version vs each.1)

-- of the data of a snapshot
data_allowed : (version : ℕ) (v : Value DurableShape) → Fits (durable_form version) v → allows_durable version (durable_in v) ≡ true
unfolding durable_form rulesets_form
data_allowed version v fits =
    rw (rulesets_allowed version v.1.1.0 fits.0.1.1.0.0.0.1, tick_allowed (has_expiry version) v.1.0 fits.0.1.0, states_allowed version v.1.1.1.1 fits.0.1.1.1.1.0.1) refl

pub durable_allowed : (version : ℕ) (d : PlainDurable) (bytes : List ℕ) → IsDurable version d bytes → allows_durable version d ≡ true
durable_allowed version d bytes is =
    subst (λ (e : PlainDurable). allows_durable version e ≡ true) (sym is.read_back) (data_allowed version (plain_durable d) is.spelled.fits)

pub snapshot_allowed : (version : ℕ) (d : PlainDurable) → durable_in (plain_durable d) ≡ d → Fits (durable_form version) (plain_durable d) → allows_durable version d ≡ true
snapshot_allowed version d read_back fits = subst (λ (e : PlainDurable). allows_durable version e ≡ true) read_back (data_allowed version (plain_durable d) fits)

-- ---- what is recorded

pub item_allowed : (version : ℕ) (v : Value ItemShape) → Fits (item_form version) v → allows_item version (item_in v) ≡ true
unfolding item_form
item_allowed version (inl v) fits = ruleset_allowed version v fits
item_allowed version (inr v) fits = refl

pub items_allowed : (version : ℕ) (vs : List (Value ItemShape)) → AllByRecursion (Fits (item_form version)) vs → list_all (allows_item version) (map item_in vs) ≡ true
items_allowed version [] each = refl
items_allowed version (v ∷ vs) each = rw (item_allowed version v each.0) (items_allowed version vs each.1)

steps_allowed : (version : ℕ) (vs : List (Value StepShape)) → AllByRecursion (Fits (step_form version)) vs → allows_steps version (map step_in vs) ≡ true
steps_allowed version [] each = refl
steps_allowed version (v ∷ vs) each = rw (data_of_step_is_allowed version v each.0) (steps_allowed version vs each.1)

expire_allowed : (has : Bool) (tick : ℕ) → Fits (expire_form has) tick → has ≡ true
unfolding expire_form
expire_allowed true tick fits = refl
expire_allowed false tick fits = fits.1

record_allowed : (version : ℕ) (v : Value ChangeShape) → Fits (change_form version) v → allows_record version (record_in v) ≡ true
unfolding change_form items_form
record_allowed version (inl vs) fits = items_allowed version vs fits.0.1
record_allowed version (inr (inl v)) fits = refl
record_allowed version (inr (inr (inl v))) fits = refl
record_allowed version (inr (inr (inr (inl v)))) fits = refl
record_allowed version (inr (inr (inr (inr (inl steps))))) fits = steps_allowed version steps fits.0.0.0.0.1
record_allowed version (inr (inr (inr (inr (inr (inl name)))))) fits = refl
record_allowed version (inr (inr (inr (inr (inr (inr (inl epoch))))))) fits = refl
record_allowed version (inr (inr (inr (inr (inr (inr (inr tick))))))) fits = expire_allowed (has_expiry version) tick fits.0.0.0.0.0.0.0

pub allowed : (version : ℕ) (r : Recorded) → record_in (plain_record r) ≡ r → Fits (change_form version) (plain_record r) → allows_record version r ≡ true
allowed version r read_back fits = subst (λ x. allows_record version x ≡ true) read_back (record_allowed version (plain_record r) fits)

each_allowed : (version : ℕ) (vs : List (Value ChangeShape)) → AllByRecursion (Fits (change_form version)) vs → allows_group version (map record_in vs) ≡ true
each_allowed version [] each = refl
each_allowed version (v ∷ vs) each = rw (record_allowed version v each.0) (each_allowed version vs each.1)

pub group_allowed : (version : ℕ) (rs : List Recorded) → map record_in (map plain_record rs) ≡ rs → Fits (group_form version) (map plain_record rs) → allows_group version rs ≡ true
unfolding group_form
group_allowed version rs read_back fits = subst (λ xs. allows_group version xs ≡ true) read_back (each_allowed version (map plain_record rs) fits.0.1)

pub recorded_allowed : (version : ℕ) (rs : List Recorded) (payload : List ℕ) → IsRecorded version rs payload → allows_group version rs ≡ true
recorded_allowed version rs payload is = group_allowed version rs (sym is.read_back) is.spelled.fits
