-- Bits of the numbers that have an address's signs.
use Rattle.std.proofs.{Common.{◌≡◌, ◌≢◌, ℕ, ◌+◌, ◌-◌, ◌*◌, ◌/◌, ◌%◌, ◌^◌, ◌<◌, ◌≤◌, ◌==◌, Bool, true, false, cond, nat_le, nat_lt, eqb, max, Option, Some, None, refl, sym, ap, ◌∙◌, arith}, lemmas.{Bool.Decides.nat_tests, Nat.{shr-shr, shr_split, and_mask, one_shl, or_lt, and_le_l, le_or_l, le_or_r, mod_below, pow_pos}, Nat.Bits.{bit_at-zero, bit_at_or, bit_at-lt, bit_at_set_same, bit_at_set_other, bit_at_clear_same, bit_at_clear_other, bit_at_above, bit_at_cat_low, bit_at_cat_high, bit_at-trailing_zeros, shr_and_one}}, Math.Nat.div-mul-le_self}
use Rattle.std.specs.{Prelude.{bit_and, bit_or}, Int.{bit_at, bit_not, w128, trailing_zeros}}
use Rattle.pf_trie.specs.Signs.{is_set, sign_of, IsFirst}

equal : (a b : ℕ) → (a == b) ≡ true → a ≡ b
equal a b t = grind (arith, nat_tests)

unequal : (a b : ℕ) → (a == b) ≡ false → a ≢ b
unequal a b t = λ e. grind (arith, nat_tests)

-- ---- one bit set or cleared

set_bit : (n free k : ℕ) → free < 128 → is_set (bit_or n (1 * 2 ^ free % 2 ^ 128)) k ≡ cond (k == free) true (is_set n k)
set_bit n free k lt = by (k == free) refl where
  by : (t : Bool) → (k == free) ≡ t → is_set (bit_or n (1 * 2 ^ free % 2 ^ 128)) k ≡ cond t true (is_set n k)
  by true t = ap (λ (i : ℕ). is_set (bit_or n (1 * 2 ^ free % 2 ^ 128)) i) (equal k free t) ∙ ap (λ (b : ℕ). eqb b 1) (bit_at_set_same w128 n free lt)
  by false t = ap (λ (b : ℕ). eqb b 1) (bit_at_set_other w128 n free lt k (unequal k free t))

clear_bit : (n free k : ℕ) → n < 2 ^ 128 → free < 128 → is_set (bit_and n (bit_not w128 (1 * 2 ^ free % 2 ^ 128))) k ≡ cond (k == free) false (is_set n k)
clear_bit n free k fits lt = by (k == free) refl where
  other : (t : Bool) → nat_lt k 128 ≡ t → (k == free) ≡ false → bit_at (bit_and n (bit_not w128 (1 * 2 ^ free % 2 ^ 128))) k ≡ bit_at n k
  other true near t = bit_at_clear_other w128 n free lt k (grind (arith, nat_tests)) (unequal k free t)
  other false far t =
      let le : 128 ≤ k = grind (arith, nat_tests) in
      let less : bit_and n (bit_not w128 (1 * 2 ^ free % 2 ^ 128)) < 2 ^ 128 = omega (arith, fits, and_le_l n (bit_not w128 (1 * 2 ^ free % 2 ^ 128))) in
      bit_at_above (bit_and n (bit_not w128 (1 * 2 ^ free % 2 ^ 128))) 128 k less le ∙ sym (bit_at_above n 128 k fits le)

  by : (t : Bool) → (k == free) ≡ t → is_set (bit_and n (bit_not w128 (1 * 2 ^ free % 2 ^ 128))) k ≡ cond t false (is_set n k)
  by true t = ap (λ (i : ℕ). is_set (bit_and n (bit_not w128 (1 * 2 ^ free % 2 ^ 128))) i) (equal k free t)
      ∙ ap (λ (b : ℕ). eqb b 1) (bit_at_clear_same w128 n free lt)
  by false t = ap (λ (b : ℕ). eqb b 1) (other (nat_lt k 128) refl t)

-- the sign that two bits say
abbrev said : Bool → Bool → Option Bool
said p n = cond p (Some false) (cond n (Some true) None)

plain_said : (b p n : Bool) → said (cond b true p) (cond b false n) ≡ cond b (Some false) (said p n)
plain_said true p n = refl
plain_said false p n = refl

negated_said : (b p n : Bool) → said (cond b false p) (cond b true n) ≡ cond b (Some true) (said p n)
negated_said true p n = refl
negated_said false p n = refl

none_said : (b p n : Bool) → said (cond b false p) (cond b false n) ≡ cond b None (said p n)
none_said true p n = refl
none_said false p n = refl

module _ (p n free k : ℕ) (fits_p : p < 2 ^ 128) (fits_n : n < 2 ^ 128) (lt : free < 128) where
  pub with_plain : sign_of (record { plain = bit_or p (1 * 2 ^ free % 2 ^ 128); negated = bit_and n (bit_not w128 (1 * 2 ^ free % 2 ^ 128)) }) k
      ≡ cond (k == free) (Some false) (sign_of (record { plain = p; negated = n }) k)
  with_plain = (λ i. said (set_bit p free k lt i) (clear_bit n free k fits_n lt i)) ∙ plain_said (k == free) (is_set p k) (is_set n k)

  pub with_negated : sign_of (record { plain = bit_and p (bit_not w128 (1 * 2 ^ free % 2 ^ 128)); negated = bit_or n (1 * 2 ^ free % 2 ^ 128) }) k
      ≡ cond (k == free) (Some true) (sign_of (record { plain = p; negated = n }) k)
  with_negated = (λ i. said (clear_bit p free k fits_p lt i) (set_bit n free k lt i)) ∙ negated_said (k == free) (is_set p k) (is_set n k)

  pub with_none : sign_of (record { plain = bit_and p (bit_not w128 (1 * 2 ^ free % 2 ^ 128)); negated = bit_and n (bit_not w128 (1 * 2 ^ free % 2 ^ 128)) }) k
      ≡ cond (k == free) None (sign_of (record { plain = p; negated = n }) k)
  with_none = (λ i. said (clear_bit p free k fits_p lt i) (clear_bit n free k fits_n lt i)) ∙ none_said (k == free) (is_set p k) (is_set n k)

-- ---- the bits from one on, and those below it

small_mod : (n m : ℕ) → n < m → n % m ≡ n
small_mod n m lt = grind arith

from_bit : (n least k : ℕ) → n < 2 ^ 128 → is_set (n / 2 ^ least * 2 ^ least % 2 ^ 128) k ≡ cond (nat_le least k) (is_set n k) false
from_bit n least k fits = ap (λ (m : ℕ). is_set m k) whole ∙ by (nat_le least k) refl where
  whole : n / 2 ^ least * 2 ^ least % 2 ^ 128 ≡ n / 2 ^ least * 2 ^ least + 0
  whole = let less : n / 2 ^ least * 2 ^ least < 2 ^ 128 = omega (arith, fits, div-mul-le_self n (2 ^ least)) in
      small_mod (n / 2 ^ least * 2 ^ least) (2 ^ 128) less ∙ omega arith

  by : (t : Bool) → nat_le least k ≡ t → is_set (n / 2 ^ least * 2 ^ least + 0) k ≡ cond t (is_set n k) false
  by true t =
      let le : least ≤ k = grind (arith, nat_tests) in
      let same : least + (k - least) ≡ k = omega (arith, le) in
      ap (λ (b : ℕ). eqb b 1) (bit_at_cat_high (n / 2 ^ least) least 0 k (pow_pos least) le
      ∙ ap (λ (m : ℕ). m % 2) (shr-shr n least (k - least) ∙ ap (λ (i : ℕ). n / 2 ^ i) same))
  by false t =
      let less : k < least = grind (arith, nat_tests) in
      ap (λ (b : ℕ). eqb b 1) (bit_at_cat_low (n / 2 ^ least) least 0 k less ∙ bit_at-zero k)

both_said : (b p n : Bool) → said (cond b p false) (cond b n false) ≡ cond b (said p n) None
both_said true p n = refl
both_said false p n = refl

pub from_signs : (p n least k : ℕ) → p < 2 ^ 128 → n < 2 ^ 128
    → sign_of (record { plain = p / 2 ^ least * 2 ^ least % 2 ^ 128; negated = n / 2 ^ least * 2 ^ least % 2 ^ 128 }) k
    ≡ cond (nat_le least k) (sign_of (record { plain = p; negated = n }) k) None
from_signs p n least k fits_p fits_n = (λ i. said (from_bit p least k fits_p i) (from_bit n least k fits_n i))
    ∙ both_said (nat_le least k) (is_set p k) (is_set n k)

-- ---- the first bit that is set

pub none_of_zero : (p n k : ℕ) → bit_or p n ≡ 0 → sign_of (record { plain = p; negated = n }) k ≡ None
none_of_zero p n k none =
    let zero_p : p ≡ 0 = omega (arith, none, le_or_l p n) in
    let zero_n : n ≡ 0 = omega (arith, none, le_or_r p n) in
    (λ i. said (is_set (zero_p i) k) (is_set (zero_n i) k)) ∙ (λ i. said (eqb (bit_at-zero k i) 1) (eqb (bit_at-zero k i) 1))

is_zero : (b : ℕ) → b ≡ 0 → eqb b 1 ≡ false
is_zero b z = grind (arith, nat_tests)

is_one : (b : ℕ) → b ≡ 1 → eqb b 1 ≡ true
is_one b z = grind (arith, nat_tests)

module _ (p n : ℕ) (fits_p : p < 2 ^ 128) (fits_n : n < 2 ^ 128) (some : bit_or p n ≢ 0) where
  abbrev place : ℕ
  place = trailing_zeros w128 (bit_or p n)

  found : (place < 128) × (bit_at (bit_or p n) place ≡ 1) × ((i : ℕ) → i < place → bit_at (bit_or p n) i ≡ 0)
  found = bit_at-trailing_zeros w128 (bit_or p n) (omega (arith, some)) (or_lt 128 p n fits_p fits_n)

  pub place_within : place < 128
  place_within = found.0

  first : (k : ℕ) → k < place → sign_of (record { plain = p; negated = n }) k ≡ None
  first k lt =
      let none : max (bit_at p k) (bit_at n k) ≡ 0 = sym (bit_at_or p n k) ∙ found.2 k lt in
      (λ i. said (is_zero (bit_at p k) (omega (arith, none)) i) (is_zero (bit_at n k) (omega (arith, none)) i))

  own : (a b : ℕ) → a < 2 → b < 2 → max a b ≡ 1 → (c : ℕ) → c ≡ a → said (eqb a 1) (eqb b 1) ≡ Some (c == 0)
  own a b la lb one c same = by (a == 0) refl where
    by : (t : Bool) → (a == 0) ≡ t → said (eqb a 1) (eqb b 1) ≡ Some (c == 0)
    by true t =
        let zero_a : a ≡ 0 = equal a 0 t in
        let one_b : b ≡ 1 = omega (arith, one, zero_a) in
        (λ i. said (is_zero a zero_a i) (is_one b one_b i)) ∙ ap Some (sym (ap (λ (x : ℕ). x == 0) same ∙ t))
    by false t =
        let one_a : a ≡ 1 = let other = unequal a 0 t in omega (arith, la, other) in
        (λ i. said (is_one a one_a i) (eqb b 1)) ∙ ap Some (sym (ap (λ (x : ℕ). x == 0) same ∙ t))

  pub is_first : IsFirst (record { plain = p; negated = n }) (record { free = place; sign = bit_and (p / 2 ^ place) 1 == 0 })
  is_first = record {
    within = found.0;
    sign = own (bit_at p place) (bit_at n place) (bit_at-lt p place) (bit_at-lt n place) (sym (bit_at_or p n place) ∙ found.1)
        (bit_and (p / 2 ^ place) 1) (shr_and_one p place);
    first = first;
  }

-- no bit is set from 128 on
pub none_from : (p n least k : ℕ) → p < 2 ^ 128 → n < 2 ^ 128 → 128 ≤ least → None ≡ cond (nat_le least k) (sign_of (record { plain = p; negated = n }) k) None
none_from p n least k fits_p fits_n le = by (nat_le least k) refl where
  by : (t : Bool) → nat_le least k ≡ t → None ≡ cond t (sign_of (record { plain = p; negated = n }) k) None
  by true t =
      let far : 128 ≤ k = let past : least ≤ k = grind (arith, nat_tests) in omega (arith, past, le) in
      sym (λ i. said (is_zero (bit_at p k) (bit_at_above p 128 k fits_p far) i) (is_zero (bit_at n k) (bit_at_above n 128 k fits_n far) i))
  by false t = refl

-- the bits below one as a remainder
pub below_value : (n most : ℕ) → most < 128 → bit_and n (1 * 2 ^ most % 2 ^ 128 - 1) ≡ n % 2 ^ most
below_value n most lt = ap (λ (m : ℕ). bit_and n (m - 1)) (one_shl most 128 lt) ∙ and_mask n most

rest_bit : (n most k : ℕ) → is_set (n % 2 ^ most) k ≡ cond (nat_lt k most) (is_set n k) false
rest_bit n most k = by (nat_lt k most) refl where
  by : (t : Bool) → nat_lt k most ≡ t → is_set (n % 2 ^ most) k ≡ cond t (is_set n k) false
  by true t = let less : k < most = grind (arith, nat_tests) in
      ap (λ (b : ℕ). eqb b 1) (sym (bit_at_cat_low (n / 2 ^ most) most (n % 2 ^ most) k less) ∙ ap (λ (m : ℕ). bit_at m k) (shr_split n most))
  by false t = let le : most ≤ k = grind (arith, nat_tests) in
      ap (λ (b : ℕ). eqb b 1) (bit_at_above (n % 2 ^ most) most k (mod_below n (2 ^ most) (pow_pos most)) le)

pub cut_signs : (p n most k : ℕ) → sign_of (record { plain = p % 2 ^ most; negated = n % 2 ^ most }) k
    ≡ cond (nat_lt k most) (sign_of (record { plain = p; negated = n }) k) None
cut_signs p n most k = (λ i. said (rest_bit p most k i) (rest_bit n most k i)) ∙ both_said (nat_lt k most) (is_set p k) (is_set n k)
