-- Checks one after the other, and what is due if memory may run out.
use Rattle.std.specs.Prelude.{◌≡◌, ◌≢◌, ℕ, Bool, true, false, if◌then◌else◌, Option, Some, None, Result, Ok, Err}
use Rattle.std.proofs.Common.{refl}

-- a check, then another if it passes
abbrev pub and_then : {A E : Type 0} → Result (Unit {0}) E → Result A E → Result A E
and_then (Ok u) next = next
and_then (Err e) next = Err e

-- refused if this holds
abbrev pub unless : {E : Type 0} → Bool → E → Result (Unit {0}) E
unless b why = if b then Err why else Ok tt

-- refused at a place, if there is one
abbrev pub refused_at : {E : Type 0} → (ℕ → E) → Option ℕ → Result (Unit {0}) E
refused_at why None = Ok tt
refused_at why (Some i) = Err (why i)

-- what is due, unless it ran out of memory
abbrev pub OrMemory : {A E : Type 0} → E → Result A E → Result A E → Type 0
OrMemory memory r due = (r ≡ Err memory → ⊥) → r ≡ due

-- done only if nothing refuses it, and refused only for what does; memory may run out anywhere
abbrev pub Meets : {A E : Type 0} → E → Result A E → Result (Unit {0}) E → Type 0
Meets memory (Ok x) due = due ≡ Ok tt
Meets memory (Err e) due = (e ≡ memory → ⊥) → due ≡ Err e

-- the same, where the refusal is given by itself
abbrev pub Refuses : {A E : Type 0} → E → Result A E → Option E → Type 0
Refuses memory (Ok x) due = due ≡ None
Refuses memory (Err e) due = e ≢ memory → due ≡ Some e

-- ---- what checks in turn let pass

pub record AreBothPassed {A E : Type 0} (r : Result (Unit {0}) E) (next : Result A E) (x : A) : Type 0 where
  pub first : r ≡ Ok tt
  pub second : next ≡ Ok x

pub both_passed : {A E : Type 0} (r : Result (Unit {0}) E) (next : Result A E) (x : A) → and_then r next ≡ Ok x → AreBothPassed r next x
both_passed (Ok tt) next x h = record { first = refl; second = h }
both_passed (Err e) next x h = absurd (cc (h))

-- what wasn't refused doesn't hold
pub not_refused : {E : Type 0} (b : Bool) (why : E) → unless b why ≡ Ok tt → b ≡ false
not_refused true why h = absurd (cc (h))
not_refused false why h = refl
