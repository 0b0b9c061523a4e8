-- Expiries in bytes: a version that allows a state has a form for it, and none has one for a state that it doesn't allow.
use Rattle.std.proofs.{Common.{◌≡◌, ℕ, ◌<◌, ◌^◌, Bool, true, false, ◌||◌, List, [], ◌∷◌, ◌++◌, replicate, inl, inr, refl, sym, ap, ◌∙◌, arith}, lemmas.Bool.{eqb-true, eq-eqb}}
use Rattle.std.specs.{Prelude.◌==◌, List.list_all}
use Rattle.pf_form.specs.Bytes.{BasicForms.number_bytes, Forms.{Value, Fits, onto, number, front, pair, length_of}}
use Rattle.pf_state.specs.{declared.step.StateStep.{StateStep, TheVariants.{Insert, Delete, Clear}}, States.{PlainState, none_expires}, Layouts.{Flows.{flow_form, plain_flow}, States.{StateShape, state_in, name_form, plain_name, bound_form, plain_bound, has_expiry, expiry_form, held_form, state_form, plain_state, allows, all_allowed}, Steps.{StepShape, step_in, step_form, plain_step, allows_step}}}

-- zero in eight bytes is eight zeros
zeros : number_bytes 8 0 ≡ replicate 8 0
unfolding number_bytes
zeros = refl

pub expiry_written : (has : Bool) (n : ℕ) (out : List ℕ) → (has || (n == 0)) ≡ true → onto (expiry_form has) n out ≡ out ++ number_bytes 8 n
unfolding expiry_form
expiry_written true n out allowed = refl
expiry_written false n out allowed = ap (λ (l : List ℕ). out ++ l) (sym zeros ∙ ap (number_bytes 8) (sym (eqb-true n 0 allowed)))

pub expiry_fits : (has : Bool) (n : ℕ) → n < 2 ^ 64 → (has || (n == 0)) ≡ true → Fits (expiry_form has) n
unfolding expiry_form
expiry_fits true n short allowed = omega (arith, short)
expiry_fits false n short allowed = eqb-true n 0 allowed

-- a state's parts, and its expiry in eight bytes, are what its form writes
pub state_written : (version : ℕ) (s : PlainState) (out named new : List ℕ) → allows version s ≡ true
    → named ≡ onto flow_form (plain_flow s.1.flow) (onto (number 4) s.1.generation (onto name_form (plain_name s.0) out))
    → new ≡ onto (front (replicate 8 255) (pair bound_form (number 8))) (plain_bound s.1.bound, s.1.expiry) named
    → new ≡ onto (state_form version) (plain_state s) out
unfolding state_form held_form
state_written version s out named new allowed first last =
    last
    ∙ sym (expiry_written (has_expiry version) s.1.expiry (onto bound_form (plain_bound s.1.bound) (named ++ replicate 8 255)) allowed)
    ∙ ap (λ (l : List ℕ). onto (expiry_form (has_expiry version)) s.1.expiry (onto bound_form (plain_bound s.1.bound) (l ++ replicate 8 255))) first

pub state_fits : (version : ℕ) (s : PlainState) → allows version s ≡ true → s.1.expiry < 2 ^ 64 → s.1.generation < 2 ^ 32 → Fits name_form (plain_name s.0)
    → Fits flow_form (plain_flow s.1.flow) → Fits bound_form (plain_bound s.1.bound) → Fits (state_form version) (plain_state s)
unfolding state_form held_form
state_fits version s allowed short low name flow bound = (name, (omega (arith, low), (flow, (bound, expiry_fits (has_expiry version) s.1.expiry short allowed))))

pub expiry_long : (has : Bool) (n : ℕ) → length_of (expiry_form has) n ≡ 8
unfolding expiry_form
expiry_long true n = refl
expiry_long false n = refl

expiry_allowed : (has : Bool) (n : ℕ) → Fits (expiry_form has) n → (has || (n == 0)) ≡ true
unfolding expiry_form
expiry_allowed true n fits = refl
expiry_allowed false n fits = eq-eqb n 0 fits

pub state_is_allowed : (version : ℕ) (s : PlainState) → Fits (state_form version) (plain_state s) → allows version s ≡ true
unfolding state_form held_form
state_is_allowed version s fits = expiry_allowed (has_expiry version) s.1.expiry fits.1.1.1.1

pub step_is_allowed : (version : ℕ) (x : StateStep) → Fits (step_form version) (plain_step x) → allows_step version x ≡ true
unfolding step_form
step_is_allowed version (Insert s) fits = state_is_allowed version s fits
step_is_allowed version (Delete n) fits = refl
step_is_allowed version (Clear creator) fits = refl

-- a version allows all states if it has expiries or none of them has one
pub all_allowed_is : (version : ℕ) (es : List PlainState) → (has_expiry version || none_expires es) ≡ all_allowed version es
all_allowed_is version es = by (has_expiry version) es where
  by : (has : Bool) (fs : List PlainState) → (has || none_expires fs) ≡ list_all (λ s. has || (s.1.expiry == 0)) fs
  by true [] = refl
  by true (f ∷ fs) = by true fs
  by false fs = refl

-- the same of the data of a state and of a step
pub data_is_allowed : (version : ℕ) (v : Value StateShape) → Fits (state_form version) v → allows version (state_in v) ≡ true
unfolding state_form held_form
data_is_allowed version v fits = expiry_allowed (has_expiry version) v.1.1.1.1 fits.1.1.1.1

pub data_of_step_is_allowed : (version : ℕ) (v : Value StepShape) → Fits (step_form version) v → allows_step version (step_in v) ≡ true
unfolding step_form
data_of_step_is_allowed version (inl v) fits = data_is_allowed version v fits
data_of_step_is_allowed version (inr (inl v)) fits = refl
data_of_step_is_allowed version (inr (inr v)) fits = refl
