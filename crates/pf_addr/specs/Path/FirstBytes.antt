-- The first bytes of a text as a number, which rises with the order of the texts by their bytes.
use Rattle.std.specs.{Prelude.{◌≡◌, ℕ, zero, suc, ◌+◌, ◌-◌, ◌*◌, ◌^◌, ◌<◌, ◌≤◌, nat_lt, cond, Bool, true, false, List, [], ◌∷◌}, Ordering.{nat_cmp, ordering_then}, Cmp.Lexicographic.slice_cmp}
use Rattle.std.specs.declared.{cmp.Ordering.Ordering, cmp.Ordering.TheVariants.Less}
use Rattle.std.proofs.Common.{arith, refl}
use Rattle.std.proofs.Math.Nat.{mul-le-mul_right}
use Rattle.std.specs.Cmp.{nat_cmp_total}
use Rattle.std.proofs.lemmas.{Bool.{Decides.nat_tests, lt-ltb}, Cmp.tied_itself}

-- The first n bytes, the first one highest; a shorter text is padded with zeros. From the first value that is no byte on, it is the
-- greatest.
abbrev pub front_number : ℕ → List ℕ → ℕ
front_number zero bs = 0
front_number (suc n) [] = 0
front_number (suc n) (b ∷ bs) = cond (nat_lt b 256) (b * 256 ^ n + front_number n bs) (256 * 256 ^ n - 1)

some : (n : ℕ) → 0 < 256 ^ n
some zero = omega arith
some (suc n) = let there = some n in omega arith

pub below : (n : ℕ) (bs : List ℕ) → front_number n bs < 256 ^ n
below zero bs = omega arith
below (suc n) [] = some (suc n)
below (suc n) (b ∷ bs) = first_below (nat_lt b 256) refl (below n bs) where
  first_below : (is : Bool) → nat_lt b 256 ≡ is → front_number n bs < 256 ^ n → cond is (b * 256 ^ n + front_number n bs) (256 * 256 ^ n - 1) < 256 ^ suc n
  first_below true is rest =
      let less : b < 256 = grind (arith, nat_tests, is) in
      let most : suc b * 256 ^ n ≤ 256 * 256 ^ n = mul-le-mul_right (256 ^ n) less in
      omega (arith, most, rest)
  first_below false is rest = let there = some n in omega (arith, there)

first_less : (b c : ℕ) (r : Ordering) → b < c → ordering_then (nat_cmp b c) r ≡ Less
first_less b c r less = let is : nat_lt b c ≡ true = lt-ltb b c less in rw is refl

module _ (n : ℕ) (b c f g : ℕ) (f_less : f < 256 ^ n) (g_less : g < 256 ^ n) where
  -- the first digit decides between two numbers
  digit_first : b * 256 ^ n + f < c * 256 ^ n + g → b ≤ c
  digit_first less = by (nat_lt c b) refl where
    by : (is : Bool) → nat_lt c b ≡ is → b ≤ c
    by true is =
        let more : c < b = grind (arith, nat_tests, is) in
        let most : suc c * 256 ^ n ≤ b * 256 ^ n = mul-le-mul_right (256 ^ n) more in
        absurd (omega (arith, most, less, f_less, g_less))
    by false is = grind (arith, nat_tests, is)

-- if the first digits are the same, the others decide
same_digit : (n b c f g : ℕ) → c ≤ b → b ≤ c → b * 256 ^ n + f < c * 256 ^ n + g → f < g
same_digit n b c f g from to less = let is : b ≡ c = omega arith in
    let same : b * 256 ^ n ≡ c * 256 ^ n = rw is refl in
    omega (arith, same, less)

pub front_rises : (n : ℕ) (p q : List ℕ) → front_number n p < front_number n q → slice_cmp nat_cmp p q ≡ Less
front_rises zero p q less = let no : 0 < 0 = less in absurd (omega (arith, no))
front_rises (suc n) [] [] less = let no : 0 < 0 = less in absurd (omega (arith, no))
front_rises (suc n) (b ∷ p) [] less = let no : front_number (suc n) (b ∷ p) < 0 = less in absurd (omega (arith, no))
front_rises (suc n) [] (c ∷ q) less = refl
front_rises (suc n) (b ∷ p) (c ∷ q) less = by (nat_lt b 256) (nat_lt c 256) refl refl less (front_rises n p q) (below n p) (below n q) (below (suc n) (c ∷ q)) where
  by : (is there : Bool) → nat_lt b 256 ≡ is → nat_lt c 256 ≡ there →
      cond is (b * 256 ^ n + front_number n p) (256 * 256 ^ n - 1) < cond there (c * 256 ^ n + front_number n q) (256 * 256 ^ n - 1) →
      (front_number n p < front_number n q → slice_cmp nat_cmp p q ≡ Less) → front_number n p < 256 ^ n → front_number n q < 256 ^ n →
      front_number (suc n) (c ∷ q) < 256 ^ suc n → ordering_then (nat_cmp b c) (slice_cmp nat_cmp p q) ≡ Less
  by true true is there h rest f g all = digits (nat_lt b c) refl where
    digits : (before : Bool) → nat_lt b c ≡ before → ordering_then (nat_cmp b c) (slice_cmp nat_cmp p q) ≡ Less
    digits true before = let less : b < c = grind (arith, nat_tests, before) in first_less b c _ less
    digits false before =
        let from : c ≤ b = grind (arith, nat_tests, before) in
        let to : b ≤ c = digit_first n b c (front_number n p) (front_number n q) f g h in
        let is : b ≡ c = omega arith in
        rw (is, tied_itself nat_cmp_total c) (rest (same_digit n b c (front_number n p) (front_number n q) from to h))
  by true false is there h rest f g all =
      let small : b < 256 = grind (arith, nat_tests, is) in
      let large : 256 ≤ c = grind (arith, nat_tests, there) in
      first_less b c _ (omega arith)
  by false true is there h rest f g all =
      let small : c < 256 = grind (arith, nat_tests, there) in
      let most : suc c * 256 ^ n ≤ 256 * 256 ^ n = mul-le-mul_right (256 ^ n) small in
      absurd (omega (arith, most, h, g))
  by false false is there h rest f g all = absurd (omega (arith, h))
