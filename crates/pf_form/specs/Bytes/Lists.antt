-- Lists whose items are in order.
use Rattle.std.specs.Prelude.{◌&&◌, ℕ, Bool, true, List, [], ◌∷◌}
use Rattle.pf_form.specs.Bytes.Forms.{Shape, list, Value, ByteForm, counted, that}

-- each comes before the next
abbrev pub in_order : {A : Type 0} → (A → A → Bool) → List A → Bool
in_order before [] = true
in_order before (x ∷ []) = true
in_order before (x ∷ y ∷ xs) = before x y && in_order before (y ∷ xs)

-- their number in so many bytes, and that many in order
abbrev pub ordered : {a : Shape} → (Value a → Value a → Bool) → ℕ → ByteForm a → ByteForm (list a)
ordered before w f = that (in_order before) (counted w f)
