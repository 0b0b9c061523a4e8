-- Where the hints of two keys differ, they stand to each other as the keys do.
use Rattle.std.specs.{Prelude.{◌≡◌, ◌≢◌, ℕ, ◌<◌, nat_lt, nat_eq, true, false, Bool}, Ordering.{ordering_reverse, nat_cmp}, Cmp.IsTotalOrder}
use Rattle.std.specs.declared.cmp.Ordering.{Ordering}
use Rattle.std.proofs.{Common.{refl, sym, ap, ◌∙◌, arith}, lemmas.Bool.Decides.nat_tests}
use Rattle.pf_key.specs.Keys.{RisesWith}

module _ {K : Type 0} {R : K → K → Ordering} (o : IsTotalOrder R) (hint : K → ℕ) (rises : RisesWith R hint) (a b : K) where
  by_less : hint a ≢ hint b → (l : Bool) → nat_lt (hint a) (hint b) ≡ l → nat_cmp (hint a) (hint b) ≡ R a b
  by_less differ true less = let before : hint a < hint b = grind (arith, nat_tests, less) in rw less (sym (rises a b before))
  by_less differ false less =
      let unequal : nat_eq (hint a) (hint b) ≡ false = grind (arith, nat_tests, differ) in
      let following : hint b < hint a = grind (arith, nat_tests, less, differ) in
      rw (less, unequal) (sym (o.antisymm a b ∙ ap ordering_reverse (rises b a following)))

  pub hints_decide : (m n : ℕ) → m ≡ hint a → n ≡ hint b → m ≢ n → nat_cmp m n ≡ R a b
  hints_decide m n one other differ =
      rw (one, other) (by_less (λ same. differ (one ∙ same ∙ sym other)) (nat_lt (hint a) (hint b)) refl)
