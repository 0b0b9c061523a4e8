-- Lists of which each item stands before the next.
use Rattle.std.specs.Prelude.{◌&&◌, Bool, true, List, [], ◌∷◌}

abbrev pub in_order : {A : Type 0} → (A → A → Bool) → List A → Bool
in_order before [] = true
in_order before (x ∷ []) = true
in_order before (x ∷ y ∷ xs) = before x y && in_order before (y ∷ xs)
