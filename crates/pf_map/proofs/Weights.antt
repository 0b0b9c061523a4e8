-- What a map's entries weigh together once a value was replaced.
use Rattle.std.proofs.{Common.{◌≡◌, ℕ, ◌+◌, ◌*◌, ◌<◌, ◌≤◌, Bool, true, false, not, cond, T, List, [], ◌∷◌, length, suc, Option, Some, None, option_map, refl, ap, subst, ◌∙◌, arith}, lemmas.Cmp.tied_itself, lemmas.List.Sums.sum_by-cons}
use Rattle.std.specs.{declared.{cmp.Ordering.Ordering, cmp.Ordering.TheVariants.Less, cmp.Ordering.TheVariants.Equal, cmp.Ordering.TheVariants.Greater}, Cmp.IsTotalOrder, Prelude.{◌^◌, filter, is_some}, FinMap.{IsAntisymmetric, find, put, is_sorted}, FinMap.Entries.{by_order, length_without}, List.{sum_by, AllByRecursion}, Ordering.{eq_by_cmp, is_eq}}
use Rattle.pf_map.specs.{Maps.{without, with_value, entry_at}, Weights.{weight_of, IsWeighed}}
use Rattle.pf_map.proofs.{Maps.replaces_the_key, Tests.{second_of, equal_of}}

none_more : {X : Type 0} (x : Option X) (n m : ℕ) → cond (is_some x) 1 0 + n ≡ m → n ≡ m → x ≡ None
none_more None n m more same = refl
none_more (Some v) n m more same = absurd (omega (arith, more, same))

-- light entries
module _ {E : Type 0} (weight : E → ℕ) where
  abbrev AreLight : List E → Type 0
  AreLight es = AllByRecursion (λ e. weight e < 2 ^ 32) es

  pub light_sum : (es : List E) → AreLight es → sum_by weight es ≤ 4294967296 * length es
  light_sum [] light = omega arith
  light_sum (e ∷ es) light = omega (arith, light.0, light_sum es light.1, sum_by-cons weight e es)

  light_left : (test : E → Bool) (es : List E) → AreLight es → AreLight (filter test es)
  light_left test [] light = light
  light_left test (e ∷ es) light = by (test e) (light_left test es light.1) where
    by : (b : Bool) → AreLight (filter test es) → AreLight (cond b (e ∷ filter test es) (filter test es))
    by true rest = (light.0, rest)
    by false rest = rest

module _ {K X : Type 0} {R : K → K → Ordering} (o : IsTotalOrder R) (alike : IsAntisymmetric R) (weight : K × X → ℕ) where
  abbrev at : K → Option X → ℕ
  at k v = weight_of weight (option_map (λ x. (k, x)) v)

  -- a key stands once
  stands_once : (k : K) (e : K × X) (es : List (K × X)) → T (is_sorted R (e ∷ es)) → eq_by_cmp R k e.0 ≡ true → find R k es ≡ None
  stands_once k e es sorted t =
      let left = without R es k in
      let whole : 1 + length left ≡ suc (length es) = subst (λ b. cond (is_some (cond b (Some e.1) (find R k es))) 1 0 + length (cond (not b) (e ∷ left) left) ≡ suc (length es)) t (length_without R o k (e ∷ es) sorted) in
      let rest : cond (is_some (find R k es)) 1 0 + length left ≡ length es = length_without R o k es (second_of _ _ sorted) in
      none_more (find R k es) (length left) (length es) rest (omega (arith, whole))

  taken : (k : K) (es : List (K × X)) → T (is_sorted R es) → at k (find R k es) + sum_by weight (without R es k) ≡ sum_by weight es
  taken k [] sorted = refl
  taken k (e ∷ es) sorted = by (eq_by_cmp R k e.0) refl (taken k es (second_of _ _ sorted)) where
    by : (b : Bool) → eq_by_cmp R k e.0 ≡ b → at k (find R k es) + sum_by weight (without R es k) ≡ sum_by weight es
        → at k (cond b (Some e.1) (find R k es)) + sum_by weight (cond (not b) (e ∷ without R es k) (without R es k)) ≡ sum_by weight (e ∷ es)
    by true t rest =
        let own : weight (k, e.1) ≡ weight e = ap (λ (j : K). weight (j, e.1)) (alike k e.0 (equal_of (R k e.0) t)) in
        let others : at k None + sum_by weight (without R es k) ≡ sum_by weight es = subst (λ v. at k v + sum_by weight (without R es k) ≡ sum_by weight es) (stands_once k e es sorted t) rest in
        omega (arith, own, others, sum_by-cons weight e es)
    by false t rest = omega (arith, rest, sum_by-cons weight e es, sum_by-cons weight e (without R es k))

  put_in : (k : K) (v : X) (es : List (K × X)) → find R k es ≡ None → sum_by weight (put R k v es) ≡ sum_by weight es + weight (k, v)
  put_in k v [] none = omega (arith, sum_by-cons weight (k, v) [])
  put_in k v (e ∷ es) none = by (R k e.0) none (put_in k v es) where
    by : (r : Ordering) → cond (is_eq r) (Some e.1) (find R k es) ≡ None → (find R k es ≡ None → sum_by weight (put R k v es) ≡ sum_by weight es + weight (k, v))
        → sum_by weight (by_order r ((k, v) ∷ e ∷ es) ((e.0, v) ∷ es) (e ∷ put R k v es)) ≡ sum_by weight (e ∷ es) + weight (k, v)
    by Less gone rest = omega (arith, sum_by-cons weight (k, v) (e ∷ es))
    by Equal gone rest = absurd (cc (gone))
    by Greater gone rest = omega (arith, rest gone, sum_by-cons weight e es, sum_by-cons weight e (put R k v es))

  light_put : (k : K) (v : X) (es : List (K × X)) → find R k es ≡ None → weight (k, v) < 2 ^ 32 → AreLight weight es → AreLight weight (put R k v es)
  light_put k v [] none new light = (new, light)
  light_put k v (e ∷ es) none new light = by (R k e.0) none (λ gone. light_put k v es gone new light.1) where
    by : (r : Ordering) → cond (is_eq r) (Some e.1) (find R k es) ≡ None → (find R k es ≡ None → AreLight weight (put R k v es))
        → AreLight weight (by_order r ((k, v) ∷ e ∷ es) ((e.0, v) ∷ es) (e ∷ put R k v es))
    by Less gone rest = (new, light)
    by Equal gone rest = absurd (cc (gone))
    by Greater gone rest = (light.0, rest gone)

  without_gone : (es : List (K × X)) (k : K) → find R k (without R es k) ≡ None
  without_gone es k = replaces_the_key X o es k None k ∙ ap (λ (b : Bool). cond b None (find R k es)) (ap is_eq (tied_itself o k))

  -- what was there no longer weighs, and what is there now does
  pub reweighed : (es : List (K × X)) (k : K) (v : Option X) (total had has after : ℕ) → T (is_sorted R es) → IsWeighed weight es total
      → had ≡ weight_of weight (entry_at R k es) → has ≡ at k v → has < 2 ^ 32 → after + had ≡ total + has → IsWeighed weight (with_value R es k v) after
  reweighed es k None total had has after sorted is had_is has_is low sum = record {
    exact = omega (arith, taken k es sorted, is.exact, had_is, has_is, sum);
    light = light_left weight (λ e. not (eq_by_cmp R k e.0)) es is.light;
  }
  reweighed es k (Some v) total had has after sorted is had_is has_is low sum = record {
    exact = omega (arith, taken k es sorted, put_in k v (without R es k) (without_gone es k), is.exact, had_is, has_is, sum);
    light = light_put k v (without R es k) (without_gone es k) (subst (λ (n : ℕ). n < 2 ^ 32) has_is low) (light_left weight (λ e. not (eq_by_cmp R k e.0)) es is.light);
  }

  -- there is so much of it, and there was no more
  pub weighs_enough : (es : List (K × X)) (k : K) (total had : ℕ) → T (is_sorted R es) → IsWeighed weight es total
      → had ≡ weight_of weight (entry_at R k es) → length es < 2 ^ 64 → (had ≤ total) × (total < 2 ^ 96)
  weighs_enough es k total had sorted is had_is few =
      (omega (arith, taken k es sorted, is.exact, had_is), omega (arith, light_sum weight es is.light, is.exact, few))
