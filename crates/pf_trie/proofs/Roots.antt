-- Whole tries: the level of all addresses, and the prefix that contains them all.
use Rattle.std.proofs.{Common.{◌≡◌, ℕ, ◌/◌, ◌^◌, ◌<◌, ◌≤◌, ◌==◌, ◌&&◌, Bool, true, false, cond, nat_lt, [], Option, Some, None, refl, sym, ap, ◌∙◌, subst, arith}, lemmas.Bool.Decides.nat_tests, Math.Nat.div-eq_of_lt}
use Rattle.pf_trie.specs.declared.{found.Found.{Found}, prefix.Prefix.{Prefix}}
use Rattle.pf_trie.specs.{Prefixes.{AllSigns, Agree, front, with_sign, HasNone, Decides}, Rows.AreRows, Tries.IsRooted}
use Rattle.pf_trie.proofs.ForkSlots.{elsewhere}

-- no signs, no rows
pub no_rows : (s : AllSigns) (top front : ℕ) → ((k n : ℕ) → s k n ≡ None) → AreRows s top front []
no_rows s top front none = record {
  order = λ i j d lt end. absurd (omega (arith, end));
  inside = λ k d lt. absurd (omega (arith, lt));
  signs = λ k d lt. absurd (omega (arith, lt));
  starts = λ k n sign lt in_front is. let nothing = none k n in absurd (cc);
}

-- ---- look-ups

pub whole_found : (s : AllSigns) (a : ℕ) (f : Found) → Decides s 0 128 a f → Decides s 0 129 a f
whole_found s a f d = record { within = omega arith; below = let b = d.below in omega (arith, b); sign = d.sign; longest = d.longest }

pub whole_none : (s : AllSigns) (a : ℕ) → a < 2 ^ 128 → HasNone s 0 128 a → s 128 0 ≡ None → HasNone s 0 129 a
whole_none s a fits none all = record { none = λ k le lt. by k lt (nat_lt k 128) refl } where
  by : (k : ℕ) → k < 129 → (t : Bool) → nat_lt k 128 ≡ t → s k (a / 2 ^ k) ≡ None
  by k lt true near = none.none k (omega arith) (grind (arith, nat_tests))
  by k lt false far =
      let same : k ≡ 128 = let past : 128 ≤ k = grind (arith, nat_tests) in omega (arith, past, lt) in
      ap (λ (j : ℕ). s j (a / 2 ^ j)) same ∙ ap (s 128) (div-eq_of_lt fits) ∙ all

pub whole_all : (s : AllSigns) (a : ℕ) (sign : Bool) → a < 2 ^ 128 → HasNone s 0 128 a → s 128 0 ≡ Some sign
    → Decides s 0 129 a (record { free = 128; sign = sign })
whole_all s a sign fits none all = record {
  within = omega arith;
  below = omega arith;
  sign = ap (s 128) (div-eq_of_lt fits) ∙ all;
  longest = λ k le lt. none.none k le lt;
}

-- ---- edits

-- whether the prefix of an edit is the one that contains all addresses
is_all : (s : AllSigns) (p : Prefix) (sign : Option Bool) (t : Bool) → ((128 == p.free) && (0 == front p)) ≡ t → with_sign s p sign 128 0 ≡ cond t sign (s 128 0)
is_all s p sign t is = ap (λ (b : Bool). cond b sign (s 128 0)) is

module _ {X : Type 0} (holds : AllSigns → ℕ → ℕ → X → Type 0)
    (agrees : (s t : AllSigns) (top front : ℕ) (l : X) → Agree s t top front → holds s top front l → holds t top front l) where
  -- the level of an address is that of all addresses
  pub level_at : (s : AllSigns) (a : ℕ) (sign : Option Bool) (l : X) → a < 2 ^ 128 → IsRooted holds s sign l → holds s 128 (a / 2 ^ 128) l
  level_at s a sign l fits is = subst (λ (n : ℕ). holds s 128 n l) (sym (div-eq_of_lt fits)) is.level

  pub all_replaced : (s : AllSigns) (p : Prefix) (old sign : Option Bool) (l : X) → p.address < 2 ^ 128 → p.free ≡ 128 → IsRooted holds s old l
      → IsRooted holds (with_sign s p sign) sign l
  all_replaced s p old sign l fits whole is =
      let front_is : front p ≡ 0 = ap (λ (k : ℕ). p.address / 2 ^ k) whole ∙ div-eq_of_lt fits in
      let here : (128 == p.free) ≡ true = grind (arith, nat_tests) in
      let first : (0 == front p) ≡ true = equal_test 0 (front p) (sym front_is) in
      record {
        all = sym (is_all s p sign true ((λ i. here i && first i)));
        level = agrees s (with_sign s p sign) 128 0 l (elsewhere s p sign 128 0 (λ less. absurd (omega (arith, less, whole)))) is.level;
      }
    where
      equal_test : (i j : ℕ) → i ≡ j → (i == j) ≡ true
      equal_test i j e = grind (arith, nat_tests)

  pub level_replaced : (s : AllSigns) (p : Prefix) (old sign : Option Bool) (l : X) (new : X) → p.address < 2 ^ 128 → p.free < 128 → IsRooted holds s old l
      → holds (with_sign s p sign) 128 (p.address / 2 ^ 128) new → IsRooted holds (with_sign s p sign) old new
  level_replaced s p old sign l new fits less is holds_ =
      let other : (128 == p.free) ≡ false = grind (arith, nat_tests) in
      record {
        all = is.all ∙ sym (is_all s p sign false (ap (λ (b : Bool). b && (0 == front p)) other));
        level = subst (λ (n : ℕ). holds (with_sign s p sign) 128 n new) (div-eq_of_lt fits) holds_;
      }
