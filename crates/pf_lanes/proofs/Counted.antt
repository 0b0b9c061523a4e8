-- A mask that is made bit by bit.
use Rattle.std.proofs.Common.{◌≡◌, ◌≢◌, ◌<◌, ◌≤◌, ℕ, zero, suc, ◌+◌, ◌*◌, ◌%◌, ◌^◌, Bool, true, false, List, [], ◌∷◌, length, take, get_or, Option, Some, None, refl, sym, ap, ◌∙◌, arith, ⊎_elim, w8}
use Rattle.std.specs.Prelude.{bit_or, slice_get, nat_eq}
use Rattle.std.proofs.lemmas.{Bool.cases_order, List.take_all, Option.slice_get-get_or, Nat.Bits.{bit_at_set_same, bit_at_set_other}}
use Rattle.pf_rule.specs.Rules.{PlainRule}
use Rattle.pf_lanes.specs.{Masks.is_set, Answered.bit_by}
use Rattle.pf_lanes.proofs.Bits.{none_set}

-- bit k is the test of rule k, for the first n rules
pub record AreSetBelow (f : ℕ → PlainRule → Bool) (rules : List PlainRule) (n mask : ℕ) : Type 0 where
  pub each : (k : ℕ) → k < 8 → is_set mask k ≡ bit_by (f k) (slice_get (take n rules) k)

taken_below : {A : Type 0} (xs : List A) (n k : ℕ) → k < n → slice_get (take n xs) k ≡ slice_get xs k
taken_below [] zero k lt = refl
taken_below [] (suc n) k lt = refl
taken_below (x ∷ xs) zero k lt = absurd (omega arith)
taken_below (x ∷ xs) (suc n) zero lt = refl
taken_below (x ∷ xs) (suc n) (suc k) lt = taken_below xs n k (omega arith)

pub taken_above : {A : Type 0} (xs : List A) (n k : ℕ) → n ≤ k → slice_get (take n xs) k ≡ None
taken_above [] zero k le = refl
taken_above [] (suc n) k le = refl
taken_above (x ∷ xs) zero k le = refl
taken_above (x ∷ xs) (suc n) zero le = absurd (omega arith)
taken_above (x ∷ xs) (suc n) (suc k) le = taken_above xs n k (omega arith)

pub none_below : (f : ℕ → PlainRule → Bool) (rules : List PlainRule) → AreSetBelow f rules 0 0
none_below f rules = record { each = λ k lt. none_set k ∙ sym (ap (bit_by (f k)) (taken_above rules 0 k (omega arith))) }

-- what is below n, at n, and not yet there
step : (f : ℕ → PlainRule → Bool) (rules : List PlainRule) (n mask new : ℕ) (x : PlainRule) → AreSetBelow f rules n mask → n < length rules → x ≡ get_or rules n x →
    ((k : ℕ) → k < 8 → k ≢ n → is_set new k ≡ is_set mask k) → is_set new n ≡ f n x → AreSetBelow f rules (n + 1) new
step f rules n mask new x is lt here others at = record {
  each = λ k small.
      ⊎_elim
      (λ (same : k ≡ n). ap (λ j. is_set new j) same ∙ at
      ∙ sym (ap (λ (o : Option PlainRule). bit_by (f k) o) (taken_below rules (n + 1) k (omega arith) ∙ ap (slice_get rules) same ∙ slice_get-get_or rules n x lt ∙ ap (λ y. Some y) (sym here)) ∙ ap (λ j. f j x) same))
      (λ apart. ⊎_elim
      (λ (below : k < n). others k small (λ e. absurd (omega arith)) ∙ is.each k small
      ∙ ap (bit_by (f k)) (taken_below rules n k below ∙ sym (taken_below rules (n + 1) k (omega arith))))
      (λ (above : n < k). others k small (λ e. absurd (omega arith)) ∙ is.each k small
      ∙ ap (bit_by (f k)) (taken_above rules n k (omega arith) ∙ sym (taken_above rules (n + 1) k (omega arith))))
      apart)
      (cases_order k n);
}

pub one_set : (f : ℕ → PlainRule → Bool) (rules : List PlainRule) (n mask : ℕ) (x : PlainRule) → AreSetBelow f rules n mask → n < length rules → n < 8 → x ≡ get_or rules n x →
    f n x ≡ true → AreSetBelow f rules (n + 1) (bit_or mask (1 * 2 ^ n % 2 ^ 8))
one_set f rules n mask x is lt small here does =
    step f rules n mask _ x is lt here (λ k _ ne. ap (λ b. nat_eq b 1) (bit_at_set_other w8 mask n small k ne)) (ap (λ b. nat_eq b 1) (bit_at_set_same w8 mask n small) ∙ sym does)

pub one_passed : (f : ℕ → PlainRule → Bool) (rules : List PlainRule) (n mask : ℕ) (x : PlainRule) → AreSetBelow f rules n mask → n < length rules → n < 8 → x ≡ get_or rules n x →
    f n x ≡ false → AreSetBelow f rules (n + 1) mask
one_passed f rules n mask x is lt small here fails =
    step f rules n mask mask x is lt here (λ k _ ne. refl) (is.each n small ∙ ap (bit_by (f n)) (taken_above rules n n (omega arith)) ∙ sym fails)

pub all_set : (f : ℕ → PlainRule → Bool) (rules : List PlainRule) (n mask : ℕ) → AreSetBelow f rules n mask → length rules ≤ n →
    (k : ℕ) → k < 8 → is_set mask k ≡ bit_by (f k) (slice_get rules k)
all_set f rules n mask is le k lt = is.each k lt ∙ ap (λ (rs : List PlainRule). bit_by (f k) (slice_get rs k)) (take_all n rules le)
