-- Jobs, their places and their answers.
use Rattle.std.specs.Prelude.{ℕ, ◌≡◌, List, Option, Some, slice_get}

-- each place has the answer to its job
abbrev pub AreAnswers : {E A P : Type 0} → (E → A → Type 0) → (P → Option E) → List P → List A → Type 0
AreAnswers {E = E} {A = A} {P = P} Answers noted places answers =
    (i : ℕ) (p : P) (a : A) → slice_get places i ≡ Some p → slice_get answers i ≡ Some a → (entry : E) × (noted p ≡ Some entry) × Answers entry a
