-- Hints of a map's keys.
use Rattle.std.specs.Prelude.{ℕ, List, [], ◌∷◌, Option, Some, None}

-- the hint of the first key
abbrev pub first_hint : {K X : Type 0} → (K → ℕ) → List (K × X) → Option ℕ
first_hint hint [] = None
first_hint hint (e ∷ es) = Some (hint e.0)
