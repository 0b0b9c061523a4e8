-- What is held in a bank of an older version has room in the newest one, if it has in its own.
use Rattle.std.proofs.{Common.{◌≡◌, ℕ, ◌+◌, ◌≤◌, Bool, true, false, List, [], ◌∷◌, map, cond, refl, sym, subst, inl, inr, arith}, lemmas.Bool.and_parts}
use Rattle.std.specs.{Prelude.fold, FinMap.Entries.{by_order, put, where_key}, List.{list_all, AllByRecursion}}
use Rattle.std.specs.declared.cmp.{Ordering.Ordering, Ordering.TheVariants.{Less, Equal, Greater}}
use Rattle.pf_form.specs.Bytes.Forms.{Value, Fits}
use Rattle.pf_map.specs.{ListMaps.with_list, Maps.without}
use Rattle.pf_addr.specs.Path.Paths.{path_order}
use Rattle.pf_rule.specs.Rules.{PlainRule}
use Rattle.pf_anchor.specs.{Forms.{allows_rules, allows_ruleset, allows_config}, Rulesets.{PlainPlaced, with_rules}}
use Rattle.pf_state.specs.Layouts.States.{has_expiry}
use Rattle.pf_core.specs.Durable.{Changes.{PlainDurable, rulesets_in}, Forms.{allows_ticks, durable_length}}
use Rattle.pf_core.specs.declared.durable.change.Item.{Item}
use Rattle.pf_core.specs.declared.durable.change.Item.TheVariants as item
use Rattle.pf_snap.specs.{Banks.Content, declared.header.TheConstants.BANK_HEADER}
use Rattle.pf_store.specs.declared.{encoding.recorded.Recorded.Recorded, limits.TheConstants.ROOM_TO_OPEN}
use Rattle.pf_store.specs.{Groups.{ChangeShape, change_form, group_form, item_in, items_form, plain_record, record_in, allows_item}, Stores.{IsRoomy, left_by, left_by_all, Leads, Makes}}
use Rattle.pf_store.proofs.{Allowing.{items_allowed, durable_allowed}, Sized.{newest_long, older_long}}

-- ---- what changes leave of rulesets

module _ {K X : Type 0} (R : K → K → Ordering) (Q : X → Bool) where
  filtered : (p : K → Bool) (es : List (K × X)) → list_all (λ e. Q e.1) es ≡ true → list_all (λ e. Q e.1) (where_key R p es) ≡ true
  filtered p [] all = refl
  filtered p (e ∷ es) all =
      let both = and_parts (Q e.1) (list_all (λ e. Q e.1) es) all in
      let rest = filtered p es both.1 in
      elim (p e.0) as (λ b. list_all (λ e. Q e.1) (cond b (e ∷ where_key R p es) (where_key R p es)) ≡ true) [ true ↦ rw (both.0) rest | false ↦ rest ]

  with_one : (k : K) (v : X) → Q v ≡ true → (es : List (K × X)) → list_all (λ e. Q e.1) es ≡ true → list_all (λ e. Q e.1) (put R k v es) ≡ true
  with_one k v new [] all = rw new refl
  with_one k v new (e ∷ es) all =
      let both = and_parts (Q e.1) (list_all (λ e. Q e.1) es) all in
      let rest = with_one k v new es both.1 in
      elim (R k e.0) as (λ o. list_all (λ e. Q e.1) (by_order o ((k, v) ∷ e ∷ es) ((e.0, v) ∷ es) (e ∷ put R k v es)) ≡ true) [
        | Less ↦ rw (new, both.0) (both.1)
        | Equal ↦ rw new (both.1)
        | Greater ↦ rw (both.0) rest
      ]

-- a ruleset that is put in place of another
placed_allowed : (version : ℕ) (es : List PlainPlaced) (e : PlainPlaced) → list_all (allows_ruleset version) es ≡ true → allows_ruleset version e ≡ true
    → list_all (allows_ruleset version) (with_rules es e) ≡ true
placed_allowed version es e all is = by e.1 is where
  others : list_all (allows_ruleset version) (without path_order es e.0) ≡ true
  others = filtered path_order (allows_rules version) _ es all

  by : (rs : List PlainRule) → allows_rules version rs ≡ true → list_all (allows_ruleset version) (with_list path_order es (e.0, rs)) ≡ true
  by [] is = others
  by (r ∷ rs) is = with_one path_order (allows_rules version) e.0 (r ∷ rs) is _ others

rulesets_in_turn : (version : ℕ) (items es : List PlainPlaced) → list_all (allows_ruleset version) items ≡ true → list_all (allows_ruleset version) es ≡ true
    → list_all (allows_ruleset version) (fold with_rules es items) ≡ true
rulesets_in_turn version [] es new all = all
rulesets_in_turn version (e ∷ items) es new all =
    let both = and_parts (allows_ruleset version e) (list_all (allows_ruleset version) items) new in
    rulesets_in_turn version items (with_rules es e) both.1 (placed_allowed version es e all both.0)

among : (version : ℕ) (items : List Item) → list_all (allows_item version) items ≡ true → list_all (allows_ruleset version) (rulesets_in items) ≡ true
among version [] all = refl
among version (item.Rules r ∷ items) all = let both = and_parts (allows_ruleset version r) (list_all (allows_item version) items) all in rw (both.0) (among version items both.1)
among version (item.Tables p named ∷ items) all = among version items all

left_allowed : (version : ℕ) (d : PlainDurable) (v : Value ChangeShape) → Fits (change_form version) v → allows_config version d.config ≡ true
    → allows_config version (left_by d (record_in v)).config ≡ true
unfolding change_form items_form
left_allowed version d (inl vs) fits all = rulesets_in_turn version (rulesets_in (map item_in vs)) d.config.rulesets (among version (map item_in vs) (items_allowed version vs fits.0.1)) all
left_allowed version d (inr (inl v)) fits all = all
left_allowed version d (inr (inr (inl v))) fits all = all
left_allowed version d (inr (inr (inr (inl v)))) fits all = all
left_allowed version d (inr (inr (inr (inr (inl steps))))) fits all = all
left_allowed version d (inr (inr (inr (inr (inr (inl name)))))) fits all = all
left_allowed version d (inr (inr (inr (inr (inr (inr (inl epoch))))))) fits all = all
left_allowed version d (inr (inr (inr (inr (inr (inr (inr tick))))))) fits all = all

in_turn_allowed : (version : ℕ) (d : PlainDurable) (vs : List (Value ChangeShape)) → AllByRecursion (Fits (change_form version)) vs → allows_config version d.config ≡ true
    → allows_config version (left_by_all d (map record_in vs)).config ≡ true
in_turn_allowed version d [] each all = all
in_turn_allowed version d (v ∷ vs) each all = in_turn_allowed version (left_by d (record_in v)) vs each.1 (left_allowed version d v each.0 all)

led_allowed : (version : ℕ) (d : PlainDurable) (ps : List (List ℕ)) (e : PlainDurable) → Leads version d ps e → allows_config version d.config ≡ true → allows_config version e.config ≡ true
unfolding group_form
led_allowed version d [] e led all = subst (λ (k : PlainDurable). allows_config version k.config ≡ true) led all
led_allowed version d (p ∷ ps) e led all =
    led_allowed version (left_by_all d led.0) ps e led.3
    (subst (λ (xs : List Recorded). allows_config version (left_by_all d xs).config ≡ true) (sym led.1.read_back)
    (in_turn_allowed version d (map plain_record led.0) led.1.spelled.fits.0.1 all))

-- the rulesets that a bank holds, its version allows
made_allowed : (content : Content) (d : PlainDurable) → Makes content d → allows_config content.version d.config ≡ true
made_allowed content d makes =
    let first : allows_config content.version makes.first.config ≡ true =
    (and_parts (allows_config content.version makes.first.config) (allows_ticks content.version makes.first) (durable_allowed content.version makes.first content.snapshot makes.kept)).0 in
    led_allowed content.version makes.first content.payloads d makes.leads first

-- ---- room

roomy_by : (version size : ℕ) (d : PlainDurable) → allows_config version d.config ≡ true → (has : Bool) → has_expiry version ≡ has
    → BANK_HEADER + durable_length version d + ROOM_TO_OPEN ≤ size → IsRoomy size d
roomy_by version size d all true new room = omega (arith, newest_long version d all new, room)
roomy_by version size d all false old room = omega (arith, older_long version d all old, room)

pub own_roomy : (content : Content) (size : ℕ) (d : PlainDurable) → Makes content d → BANK_HEADER + durable_length content.version d + ROOM_TO_OPEN ≤ size → IsRoomy size d
own_roomy content size d makes room = roomy_by content.version size d (made_allowed content d makes) (has_expiry content.version) refl room
