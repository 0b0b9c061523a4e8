-- Maps that are made of lists in order, one entry after the other.
use Rattle.std.proofs.{Common.{◌≡◌, T, Bool, true, List, [], ◌∷◌, ◌++◌, Some, refl, sym, ap, ◌∙◌, subst}}
use Rattle.std.specs.{declared.{cmp.Ordering.Ordering, cmp.Ordering.TheVariants.Less, cmp.Ordering.TheVariants.Greater}, Cmp.IsTotalOrder, FinMap.{put, is_sorted}, FinMap.Entries.{below_all}, Ordering.{is_lt, ordering_reverse}}
use Rattle.pf_map.specs.InOrder.{in_order}
use Rattle.pf_map.specs.Maps.{without, with_value}
use Rattle.pf_map.proofs.Tests.{true_of, holds_of, first_of, second_of, less_of, both_of}

module _ {K X : Type 0} {R : K → K → Ordering} (o : IsTotalOrder R) where
  below_last : (e : K × X) (es : List (K × X)) (k : K) (v : X) → T (below_all R e.0 (es ++ (k, v) ∷ [])) → R k e.0 ≡ Greater
  below_last e [] k v h = o.antisymm k e.0 ∙ ap ordering_reverse (less_of _ (first_of _ _ h))
  below_last e (f ∷ es) k v h = below_last e es k v (second_of _ _ h)

  without_last : (es : List (K × X)) (k : K) (v : X) → T (is_sorted R (es ++ (k, v) ∷ [])) → without R es k ≡ es
  without_last [] k v is = refl
  without_last (e ∷ es) k v is = rw (below_last e es k v (first_of _ _ is)) (ap (λ l. e ∷ l) (without_last es k v (second_of _ _ is)))

  put_after : (es : List (K × X)) (k : K) (v : X) → T (is_sorted R (es ++ (k, v) ∷ [])) → put R k v es ≡ es ++ (k, v) ∷ []
  put_after [] k v is = refl
  put_after (e ∷ es) k v is = rw (below_last e es k v (first_of _ _ is)) (ap (λ l. e ∷ l) (put_after es k v (second_of _ _ is)))

  -- an entry behind all others stands behind them
  pub put_last : (es : List (K × X)) (k : K) (v : X) → T (is_sorted R (es ++ (k, v) ∷ [])) → with_value R es k (Some v) ≡ es ++ (k, v) ∷ []
  put_last es k v is = ap (put R k v) (without_last es k v is) ∙ put_after es k v is

  -- a front of a list in order is in order
  pub sorted_front : (es fs : List (K × X)) → T (is_sorted R (es ++ fs)) → T (is_sorted R es)
  sorted_front [] fs is = tt
  sorted_front (e ∷ es) fs is = both_of _ _ (below_front es (first_of _ _ is)) (sorted_front es fs (second_of _ _ is)) where
    below_front : (gs : List (K × X)) → T (below_all R e.0 (gs ++ fs)) → T (below_all R e.0 gs)
    below_front [] h = tt
    below_front (g ∷ gs) h = both_of _ _ (first_of _ _ h) (below_front gs (second_of _ _ h))

  -- ---- each before the next

  abbrev pub before : K × X → K × X → Bool
  before e f = is_lt (R e.0 f.0)

  below_more : (x y : K) (es : List (K × X)) → R x y ≡ Less → T (below_all R y es) → T (below_all R x es)
  below_more x y [] less h = tt
  below_more x y (e ∷ es) less h = both_of _ _ (subst (λ r. T (is_lt r)) (sym (o.trans x y e.0 less (less_of _ (first_of _ _ h)))) tt) (below_more x y es less (second_of _ _ h))

  -- entries of which each stands before the next are in order, and no key stands twice
  pub sorted_of : (es : List (K × X)) → in_order before es ≡ true → T (is_sorted R es)
  sorted_of [] h = tt
  sorted_of (e ∷ []) h = tt
  sorted_of (e ∷ f ∷ es) h =
      let rest : T (is_sorted R (f ∷ es)) = sorted_of (f ∷ es) (true_of _ (second_of (before e f) (in_order before (f ∷ es)) (holds_of _ h))) in
      let less : T (is_lt (R e.0 f.0)) = first_of (before e f) (in_order before (f ∷ es)) (holds_of _ h) in
      both_of _ _ (both_of _ _ less (below_more e.0 f.0 es (less_of _ less) (first_of _ _ rest))) rest

  pub in_order_of : (es : List (K × X)) → T (is_sorted R es) → in_order before es ≡ true
  in_order_of [] is = refl
  in_order_of (e ∷ []) is = refl
  in_order_of (e ∷ f ∷ es) is = true_of _ (both_of (before e f) (in_order before (f ∷ es)) (first_of _ _ (first_of _ _ is)) (holds_of _ (in_order_of (f ∷ es) (second_of _ _ is))))
