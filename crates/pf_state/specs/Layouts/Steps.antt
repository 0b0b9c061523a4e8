-- A stored step in bytes, in each version; and steps in their order.
--
--   1 and a state of 96 bytes                   insert
--   2 and an id of 8 bytes, a creator of 4      delete
--   3 and a creator of 4 bytes                  clear
use Rattle.std.specs.{Prelude.{ℕ, Bool, true, List, [], ◌∷◌, map}, List.list_all}
use Rattle.std.proofs.Common.{inl, inr}
use Rattle.pf_form.specs.Bytes.Forms.{Shape, nat, either, list, Value, ByteForm, number, front, or, counted}
use Rattle.pf_state.specs.{declared.{step.StateStep.StateStep, step.StateStep.TheVariants.Insert, step.StateStep.TheVariants.Delete, step.StateStep.TheVariants.Clear}, Layouts.States.{NameShape, name_form, plain_name, name_in, StateShape, state_form, plain_state, state_in, allows}}

abbrev pub StepShape : Shape
StepShape = either StateShape (either NameShape nat)

unfoldable pub step_form : ℕ → ByteForm StepShape
step_form version = or 1 (state_form version) (or 2 name_form (front (3 ∷ []) (number 4)))

abbrev pub plain_step : StateStep → Value StepShape
plain_step (Insert s) = inl (plain_state s)
plain_step (Delete n) = inr (inl (plain_name n))
plain_step (Clear creator) = inr (inr creator)

abbrev pub step_in : Value StepShape → StateStep
step_in (inl v) = Insert (state_in v)
step_in (inr (inl v)) = Delete (name_in v)
step_in (inr (inr v)) = Clear v

-- their number in four bytes, and that many
abbrev pub steps_form : ℕ → ByteForm (list StepShape)
steps_form version = counted 4 (step_form version)

abbrev pub plain_steps : List StateStep → List (Value StepShape)
plain_steps xs = map plain_step xs

-- whether a version has forms for steps
abbrev pub allows_step : ℕ → StateStep → Bool
allows_step version (Insert s) = allows version s
allows_step version (Delete n) = true
allows_step version (Clear creator) = true

abbrev pub allows_steps : ℕ → List StateStep → Bool
allows_steps version xs = list_all (allows_step version) xs
