-- That reading returns the fault that a text has.
use Rattle.std.specs.Prelude.{◌≡◌, ◌↔◌, ℕ, List, Result, Err}

-- A fault is returned exactly when the text has it, by cases; and a text has one fault at most.
pub record TellsFaults {A E : Type 0} (read : List ℕ → Result A E) (IsFault : List ℕ → E → Type 0) : Type 0 where
  pub reported : (text : List ℕ) (fault : E) → (read text ≡ Err fault) ↔ IsFault text fault
  pub one : (text : List ℕ) (e f : E) → IsFault text e → IsFault text f → e ≡ f
