-- Layouts and maps each say in their own way that a list is in order; both mean the same.
use Rattle.std.proofs.Common.{◌≡◌, T, Bool, true, ◌&&◌, List, [], ◌∷◌, refl, sym, ap, ◌∙◌}
use Rattle.std.specs.{declared.cmp.Ordering.Ordering, Cmp.IsTotalOrder, FinMap.is_sorted, Ordering.is_lt}
use Rattle.pf_form.specs.Bytes.Lists.{in_order}
use Rattle.pf_map.specs.InOrder as keyed
use Rattle.pf_map.proofs.Ordered as maps

one_word : {A : Type 0} (before : A → A → Bool) (xs : List A) → in_order before xs ≡ keyed.in_order before xs
one_word before [] = refl
one_word before (x ∷ []) = refl
one_word before (x ∷ y ∷ xs) = ap (λ (b : Bool). before x y && b) (one_word before (y ∷ xs))

module _ {K X : Type 0} {R : K → K → Ordering} (o : IsTotalOrder R) where
  abbrev before : K × X → K × X → Bool
  before e f = is_lt (R e.0 f.0)

  pub sorted_of : (es : List (K × X)) → in_order before es ≡ true → T (is_sorted R es)
  sorted_of es h = maps.sorted_of o es (sym (one_word before es) ∙ h)

  pub in_order_of : (es : List (K × X)) → T (is_sorted R es) → in_order before es ≡ true
  in_order_of es is = one_word before es ∙ maps.in_order_of o es is
