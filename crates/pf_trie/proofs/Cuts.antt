-- In how many last bits two numbers differ.
use Rattle.std.proofs.{Common.{◌≡◌, ℕ, suc, ◌+◌, ◌-◌, ◌*◌, ◌/◌, ◌%◌, ◌^◌, ◌<◌, ◌≤◌, bit_xor, Bool, true, false, nat_lt, refl, sym, ap, ◌∙◌, subst, arith}, Math.Nat.{div-eq_of_lt, pow-suc, le-mul_of_pos_right, mul_assoc}, lemmas.Bool.Decides.nat_tests, lemmas.Nat.{mod_below, pow_pos, pow-add, shr-shr, shr_split, xor_shr, xor_lt, and_le_l, and_le_r, leading_length}}
use Rattle.pf_trie.specs.Prefixes.{IsApart}
use Rattle.std.specs.Int.{Bits.{xor_self, xor_add_and}, Count.count_leading_zeros}

-- numbers that share their first bits share fewer of them
pub share_fewer : (j k a b : ℕ) → j ≤ k → a / 2 ^ j ≡ b / 2 ^ j → a / 2 ^ k ≡ b / 2 ^ k
share_fewer j k a b le same =
    let split : j + (k - j) ≡ k = omega arith in
    ap (λ (i : ℕ). a / 2 ^ i) (sym split) ∙ sym (shr-shr a j (k - j)) ∙ ap (λ (m : ℕ). m / 2 ^ (k - j)) same ∙ shr-shr b j (k - j)
    ∙ ap (λ (i : ℕ). b / 2 ^ i) split

-- ---- how many they share

same_of_xor : (a b : ℕ) → bit_xor a b ≡ 0 → a ≡ b
same_of_xor a b none = omega (arith, none, xor_add_and a b, and_le_l a b, and_le_r a b)

xor_of_same : (a b : ℕ) → a ≡ b → bit_xor a b ≡ 0
xor_of_same a b same = ap (λ (x : ℕ). bit_xor x b) same ∙ xor_self b

none_above : (x k : ℕ) → x / 2 ^ k ≡ 0 → x < 2 ^ k
none_above x k none =
    let whole : 0 * 2 ^ k + x % 2 ^ k ≡ x = subst (λ (q : ℕ). q * 2 ^ k + x % 2 ^ k ≡ x) none (shr_split x k) in
    omega (arith, whole, mod_below x (2 ^ k) (pow_pos k))

-- two numbers share the bits before the first set bit of their difference, and no more
pub shared_bits : (w a b : ℕ) → a < 2 ^ w → b < 2 ^ w → (n : ℕ) → n ≡ count_leading_zeros w (bit_xor a b) →
    (n ≤ w) × (a / 2 ^ (w - n) ≡ b / 2 ^ (w - n)) × ((m : ℕ) → m ≤ w → a / 2 ^ (w - m) ≡ b / 2 ^ (w - m) → m ≤ n)
shared_bits w a b lt_a lt_b n is =
    let (m, sum, below, top) = leading_length w (bit_xor a b) (xor_lt w a b lt_a lt_b) in
    let whole : n + m ≡ w = ap (λ (i : ℕ). i + m) is ∙ sum in
    let beyond : w - n ≡ m = omega (arith, whole) in (
      omega (arith, whole),
      same_of_xor _ _ (sym (xor_shr a b (w - n)) ∙ ap (λ (i : ℕ). bit_xor a b / 2 ^ i) beyond ∙ gone (bit_xor a b) m below),
      λ i le same. no_more i le (none_above (bit_xor a b) (w - i) (xor_shr a b (w - i) ∙ xor_of_same _ _ same)) m whole top,
    )
  where
    gone : (x k : ℕ) → x < 2 ^ k → x / 2 ^ k ≡ 0
    gone x k lt = div-eq_of_lt lt

    no_more : (i : ℕ) → i ≤ w → bit_xor a b < 2 ^ (w - i) → (m : ℕ) → n + m ≡ w → 2 ^ m ≤ 2 * bit_xor a b + 1 → i ≤ n
    no_more i le less m whole top = by (nat_lt n i) refl where
      by : (t : Bool) → nat_lt n i ≡ t → i ≤ n
      by false ge = grind (arith, nat_tests)
      by true lt =
          let more : n < i = grind (arith, nat_tests) in
          let split : w - i + (i - n) ≡ m = omega (arith, whole, more, le) in
          let steps : suc (i - n - 1) ≡ i - n = omega (arith, more) in
          absurd (too_many (2 ^ (w - i)) (2 ^ (i - n - 1)) (pow_pos (i - n - 1))
          (subst (λ (k : ℕ). k ≤ 2 * bit_xor a b + 1) (ap (λ (k : ℕ). 2 ^ k) (sym split) ∙ pow-add 2 (w - i) (i - n)
          ∙ ap (λ (k : ℕ). 2 ^ (w - i) * 2 ^ k) (sym steps) ∙ ap (λ (k : ℕ). 2 ^ (w - i) * k) (pow-suc 2 (i - n - 1))) top) less)
        where
          too_many : (p q : ℕ) → 0 < q → p * (q * 2) ≤ 2 * bit_xor a b + 1 → bit_xor a b < p → ⊥
          too_many p q pos le lt = omega (arith, le, lt, sym (mul_assoc p q 2), le-mul_of_pos_right p pos)

pub is_apart : (a b : ℕ) → a < 2 ^ 128 → b < 2 ^ 128 → (n : ℕ) → n ≡ count_leading_zeros 128 (bit_xor a b) → IsApart a b (128 - n)
is_apart a b lt_a lt_b n is =
    let (within, same, most) = shared_bits 128 a b lt_a lt_b n is in
    record {
      within = omega arith;
      same = same;
      fewest = λ k alike. by k alike (nat_lt 128 k) refl;
    } where
      by : (k : ℕ) → a / 2 ^ k ≡ b / 2 ^ k → (t : Bool) → nat_lt 128 k ≡ t → 128 - n ≤ k
      by k alike true far = let past : 128 < k = grind (arith, nat_tests) in omega (arith, past)
      by k alike false near =
          let le : k ≤ 128 = grind (arith, nat_tests) in
          let back : 128 - (128 - k) ≡ k = omega (arith, le) in
          let (within, same, most) = shared_bits 128 a b lt_a lt_b n is in
          let fewer : 128 - k ≤ n = most (128 - k) (omega arith)
          (ap (λ (i : ℕ). a / 2 ^ i) back ∙ alike ∙ ap (λ (i : ℕ). b / 2 ^ i) (sym back)) in
          omega (arith, fewer, le, within)
