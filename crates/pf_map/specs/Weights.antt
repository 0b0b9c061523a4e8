-- What the entries of a map weigh together, as how many bytes they take somewhere.
use Rattle.std.specs.{Prelude.{◌≡◌, ◌<◌, ◌^◌, ℕ, List, Option}, List.{sum_by, AllByRecursion}, Option.{option_map_or}}

-- of no entry nothing
abbrev pub weight_of : {E : Type 0} → (E → ℕ) → Option E → ℕ
weight_of weight e = option_map_or weight e 0

-- This is what they weigh, and none of them is heavy.
pub record IsWeighed {E : Type 0} (weight : E → ℕ) (es : List E) (total : ℕ) : Type 0 where
  pub exact : total ≡ sum_by weight es
  pub light : AllByRecursion (λ e. weight e < 2 ^ 32) es
