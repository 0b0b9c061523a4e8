-- How long a snapshot is in a version that has ticks, that no state that is kept is due, and that what fits doesn't set the tick back.
use Rattle.std.proofs.{Common.{◌≡◌, ◌+◌, ◌≤◌, ℕ, Bool, true, false, List, [], ◌∷◌, Ok, refl, ap, ◌∙◌, arith, le_refl}, lemmas.Bool.Decides.nat_tests}
use Rattle.std.specs.Prelude.{nat_lt}
use Rattle.pf_addr.specs.Refusing.{not_refused}
use Rattle.pf_form.specs.Bytes.Forms.{length_of}
use Rattle.pf_rule.specs.Sum.Layouts.{has_labels}
use Rattle.pf_anchor.specs.{Forms.config_length}
use Rattle.pf_state.specs.{declared.{state.StateName.StateName, step.StateStep.StateStep}, Layouts.States.{has_expiry, states_form, plain_states}, States.{PlainState, all_stand}, Steps.{after, any_inserts_due, without_state, without_due}}
use Rattle.pf_state.proofs.Ticks.{left_stand, stand_after, stand_without}
use Rattle.pf_core.specs.{declared.durable.refusal.ChangeRefusal.TheVariants.BadTick, Durable.{Changes.{PlainDurable, PlainChange, commits, adds, deletes, sets, acts, removes, expires, applied, after as changed_by, fits}, Forms.{tick_form, durable_form, durable_length}}, Laws.Durable.TickStaysOrRises}

-- a version that has expiries has labels
pub labels_before : (version : ℕ) → has_expiry version ≡ true → has_labels version ≡ true
labels_before version has = let late : 3 ≤ version = grind (arith, nat_tests, has) in grind (arith, nat_tests, late)

tick_long : (has : Bool) (n : ℕ) → has ≡ true → length_of (tick_form has) n ≡ 8
unfolding tick_form
tick_long true n is = refl
tick_long false n is = absurd (cc (is))

pub durable_long : (version : ℕ) (d : PlainDurable) (config states : ℕ) → has_expiry version ≡ true → (has_labels version ≡ true → config ≡ config_length version d.config)
    → states ≡ length_of (states_form version) (plain_states d.states) → 12 + config + states ≡ durable_length version d
unfolding durable_form
durable_long version d config states has kept held = omega (arith, tick_long (has_expiry version) d.tick has, kept (labels_before version has), held)

pub steps_stand : (es new : List PlainState) (tick : ℕ) (steps : List StateStep) → all_stand tick es ≡ true → any_inserts_due tick steps ≡ false → new ≡ after es steps → all_stand tick new ≡ true
steps_stand es new tick steps all none is = ap (all_stand tick) is ∙ stand_after es tick steps all none

pub removal_stands : (es new : List PlainState) (tick : ℕ) (n : StateName) → all_stand tick es ≡ true → new ≡ without_state es n → all_stand tick new ≡ true
removal_stands es new tick n all is = ap (all_stand tick) is ∙ stand_without es tick n all

pub tick_stands : (es new : List PlainState) (tick : ℕ) → new ≡ without_due es tick → all_stand tick new ≡ true
tick_stands es new tick is = ap (all_stand tick) is ∙ left_stand es tick

-- ---- the tick

-- a change that fits doesn't set it back
tick-on : (d : PlainDurable) (e : PlainChange) → fits d e ≡ Ok tt → d.tick ≤ (applied d e).tick
tick-on d (commits items) fit = le_refl _
tick-on d (adds p name xs) fit = le_refl _
tick-on d (deletes p name xs) fit = le_refl _
tick-on d (sets p name xs) fit = le_refl _
tick-on d (acts steps) fit = le_refl _
tick-on d (removes name) fit = le_refl _
tick-on d (expires tick) fit = let back : nat_lt tick d.tick ≡ false = not_refused (nat_lt tick d.tick) BadTick fit in grind (arith, nat_tests, back)

pub never_sets_the_tick_back : TickStaysOrRises
never_sets_the_tick_back d [] fit = le_refl _
never_sets_the_tick_back d (e ∷ es) fit =
    let one : d.tick ≤ (applied d e).tick = tick-on d e fit.0 in
    let rest : (applied d e).tick ≤ (changed_by (applied d e) es).tick = never_sets_the_tick_back (applied d e) es fit.1 in
    omega (arith, one, rest)
