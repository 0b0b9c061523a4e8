-- Networks by the words of their first addresses, and ports by bounds.
use Rattle.std.proofs.Common.{◌≡◌, ◌<◌, ◌≤◌, ℕ, ◌+◌, ◌-◌, ◌*◌, ◌/◌, ◌%◌, ◌^◌, min, Bool, true, false, ◌&&◌, Option, Some, None, eqb, refl, sym, ap, ◌∙◌, subst, arith, ⊎_elim}
use Rattle.std.specs.Prelude.{bit_and}
use Rattle.std.proofs.lemmas.{Bool.cases_lt, Bool.Decides.nat_tests, Nat.{shr-shr, shl-shr, shr_split, same_from_place, shr_below, shl_below, pow-add, pow_pos}, Nat.Bits.and_high_mask}
use native.Mathlib.Nat.{add-mul-div_right, add_comm}
use Rattle.pf_addr.specs.declared.{addr.Addr.Addr, addr.Family.TheVariants.{V4, V6}}
use Rattle.pf_addr.specs.declared.addr.Addr.TheVariants as addr
use Rattle.pf_addr.specs.{Address.{PlainNet, family_of, width, contains, same_family, IsAddr, IsNetwork}, Spelling.{first_addr, addr_in}}
use Rattle.pf_rule.specs.declared.{value.ports.PortTest.PortTest, value.ports.PortTest.TheVariants.{Compared, Ranged}, value.ports.Comparison.TheVariants.{Equal, NotEqual, Less, AtMost, Greater, AtLeast}, value.ports.PortRange.TheVariants.{Including, Excluding, Except}}
use Rattle.pf_rule.specs.{Value.Tests.holds, Value.Ports.{port_holds}}
use Rattle.pf_lanes.specs.Words.{equals_masked, high_mask, net_masks, net_words, masked_words, address_words, whole_holds, is_v6, test_bounds, bounds_hold}

-- ---- one word

times_same : (p a b : ℕ) → 0 < p → eqb (a * p) (b * p) ≡ eqb a b
times_same p a b pos =
    let parts : a * p + 0 ≡ b * p + 0 → (a ≡ b) × (◌≡◌ {A = ℕ} 0 0) = same_from_place a 0 b 0 p pos pos in
    grind (arith, nat_tests, parts)

-- a word has a network's first bits
pub word_front : (x w ones : ℕ) → x < 2 ^ 32 → w < 2 ^ 32 → ones ≤ 32 →
    equals_masked x (high_mask ones) (bit_and w (high_mask ones)) ≡ eqb (x / 2 ^ (32 - ones)) (w / 2 ^ (32 - ones))
word_front x w ones p q le =
    let k : 32 - ones ≤ 32 = omega arith in
    (λ i. eqb (and_high_mask 32 (32 - ones) k x p i) (and_high_mask 32 (32 - ones) k w q i))
    ∙ times_same (2 ^ (32 - ones)) (x / 2 ^ (32 - ones)) (w / 2 ^ (32 - ones)) (pow_pos (32 - ones))

-- ---- a number of several words

cut : (x h l p d e : ℕ) → h * p + l ≡ x → p ≡ d * e → x ≡ l + h * d * e
cut x h l p d e whole power = grind (arith, whole, power)

pub pair_same : (w a b c d : ℕ) → b < w → d < w → eqb (a * w + b) (c * w + d) ≡ (eqb a c && eqb b d)
pair_same w a b c d p q =
    let parts = same_from_place a b c d w p q in
    grind (arith, nat_tests, parts)

-- a number shifted into its last word: what comes before the word, and what is left of it
low_shift : (x e d : ℕ) → e + d ≡ 32 → x / 2 ^ e ≡ x / 2 ^ 32 * 2 ^ d + x % 2 ^ 32 / 2 ^ e
low_shift x e d sum =
    let power : 2 ^ 32 ≡ 2 ^ d * 2 ^ e = ap (λ n. 2 ^ n) (let s : 32 ≡ d + e = omega arith in s) ∙ pow-add 2 d e in
    let whole : x ≡ x % 2 ^ 32 + x / 2 ^ 32 * 2 ^ d * 2 ^ e = cut x (x / 2 ^ 32) (x % 2 ^ 32) (2 ^ 32) (2 ^ d) (2 ^ e) (shr_split x 32) power in
    ap (λ n. n / 2 ^ e) whole ∙ add-mul-div_right (x % 2 ^ 32) (x / 2 ^ 32 * 2 ^ d) (pow_pos e) ∙ add_comm (x % 2 ^ 32 / 2 ^ e) (x / 2 ^ 32 * 2 ^ d)

pub true_last : (b : Bool) → b ≡ (b && true)
true_last true = refl
true_last false = refl

low_gone : (x y : ℕ) → eqb (x % 2 ^ 32 / 2 ^ 32) (y % 2 ^ 32 / 2 ^ 32) ≡ true
low_gone x y = let a : x % 2 ^ 32 / 2 ^ 32 ≡ 0 = omega arith in let b : y % 2 ^ 32 / 2 ^ 32 ≡ 0 = omega arith in (λ i. eqb (a i) (b i))

split_high : (m len x y : ℕ) → len ≤ m →
    eqb (x / 2 ^ (m + 32 - len)) (y / 2 ^ (m + 32 - len))
    ≡ (eqb (x / 2 ^ 32 / 2 ^ (m - len)) (y / 2 ^ 32 / 2 ^ (m - len)) && eqb (x % 2 ^ 32 / 2 ^ 32) (y % 2 ^ 32 / 2 ^ 32))
split_high m len x y le =
    let sum : m + 32 - len ≡ 32 + (m - len) = omega arith in
    ap (λ k. eqb (x / 2 ^ k) (y / 2 ^ k)) sum
    ∙ sym (λ i. eqb (shr-shr x 32 (m - len) i) (shr-shr y 32 (m - len) i))
    ∙ true_last (eqb (x / 2 ^ 32 / 2 ^ (m - len)) (y / 2 ^ 32 / 2 ^ (m - len)))
    ∙ ap (λ b. eqb (x / 2 ^ 32 / 2 ^ (m - len)) (y / 2 ^ 32 / 2 ^ (m - len)) && b) (sym (low_gone x y))

split_low : (x y e d : ℕ) → e + d ≡ 32 →
    eqb (x / 2 ^ e) (y / 2 ^ e) ≡ (eqb (x / 2 ^ 32) (y / 2 ^ 32) && eqb (x % 2 ^ 32 / 2 ^ e) (y % 2 ^ 32 / 2 ^ e))
split_low x y e d sum =
    let total : 2 ^ 32 ≡ 2 ^ (d + e) = ap (λ n. 2 ^ n) (let s : 32 ≡ d + e = omega arith in s) in
    let p : x % 2 ^ 32 / 2 ^ e < 2 ^ d = shr_below (x % 2 ^ 32) d e (subst (λ n. x % 2 ^ 32 < n) total (omega arith)) in
    let q : y % 2 ^ 32 / 2 ^ e < 2 ^ d = shr_below (y % 2 ^ 32) d e (subst (λ n. y % 2 ^ 32 < n) total (omega arith)) in
    (λ i. eqb (low_shift x e d sum i) (low_shift y e d sum i))
    ∙ pair_same (2 ^ d) (x / 2 ^ 32) (x % 2 ^ 32 / 2 ^ e) (y / 2 ^ 32) (y % 2 ^ 32 / 2 ^ e) p q

by_one : (x : ℕ) → x / 2 ^ 32 / 2 ^ 0 ≡ x / 2 ^ 32
by_one x = omega arith

-- whether two numbers agree in their first bits, by their last word and by what comes before it
pub front_split : (m len x y a b : ℕ) → len ≤ m + 32 → a ≡ min len m → b ≡ min (len - m) 32 →
    eqb (x / 2 ^ (m + 32 - len)) (y / 2 ^ (m + 32 - len))
    ≡ (eqb (x / 2 ^ 32 / 2 ^ (m - a)) (y / 2 ^ 32 / 2 ^ (m - a)) && eqb (x % 2 ^ 32 / 2 ^ (32 - b)) (y % 2 ^ 32 / 2 ^ (32 - b)))
front_split m len x y a b le p q =
    ⊎_elim
    (λ lt.
    let high : m - a ≡ m - len = omega arith in
    let low : 32 - b ≡ 32 = omega arith in
    split_high m len x y (omega arith) ∙ sym (λ i. eqb (x / 2 ^ 32 / 2 ^ high i) (y / 2 ^ 32 / 2 ^ high i) && eqb (x % 2 ^ 32 / 2 ^ low i) (y % 2 ^ 32 / 2 ^ low i)))
    (λ ge.
    let high : m - a ≡ 0 = omega arith in
    let shift : m + 32 - len ≡ 32 - b = omega arith in
    ap (λ k. eqb (x / 2 ^ k) (y / 2 ^ k)) shift ∙ split_low x y (32 - b) b (omega arith)
    ∙ sym (λ i. eqb ((ap (λ k. x / 2 ^ 32 / 2 ^ k) high ∙ by_one x) i) ((ap (λ k. y / 2 ^ 32 / 2 ^ k) high ∙ by_one y) i) && eqb (x % 2 ^ 32 / 2 ^ (32 - b)) (y % 2 ^ 32 / 2 ^ (32 - b))))
    (cases_lt len (m + 1))

-- ---- addresses

abbrev word_same : ℕ → ℕ → ℕ → Bool
word_same x w ones = eqb (x / 2 ^ (32 - ones)) (w / 2 ^ (32 - ones))

in_words : (a b c d : Bool) → (((a && b) && c) && d) ≡ (a && (b && (c && d)))
in_words a b c d = grind arith

v6_words : (n w len : ℕ) → len ≤ 128 →
    eqb (n / 2 ^ (128 - len)) (w / 2 ^ (128 - len))
    ≡ (word_same (n / 2 ^ 96) (w / 2 ^ 96) (min len 32)
    && (word_same (n / 2 ^ 64 % 2 ^ 32) (w / 2 ^ 64 % 2 ^ 32) (min (len - 32) 32)
    && (word_same (n / 2 ^ 32 % 2 ^ 32) (w / 2 ^ 32 % 2 ^ 32) (min (len - 64) 32) && word_same (n % 2 ^ 32) (w % 2 ^ 32) (min (len - 96) 32))))
v6_words n w len le =
    let third = front_split 96 len n w (min len 96) (min (len - 96) 32) (omega arith) refl refl in
    let second = front_split 64 (min len 96) (n / 2 ^ 32) (w / 2 ^ 32) (min len 64) (min (len - 64) 32) (omega arith) (omega arith) (omega arith) in
    let first = front_split 32 (min len 64) (n / 2 ^ 64) (w / 2 ^ 64) (min len 32) (min (len - 32) 32) (omega arith) (omega arith) (omega arith) in
    third
    ∙ (λ i. (second ∙ (λ j. (ap (λ (x : ℕ × ℕ). eqb (x.0 / 2 ^ (64 - min len 64)) (x.1 / 2 ^ (64 - min len 64))) (λ k. (shr-shr n 32 32 k, shr-shr w 32 32 k))
    ∙ first ∙ (λ k. eqb (shr-shr n 64 32 k / 2 ^ (32 - min len 32)) (shr-shr w 64 32 k / 2 ^ (32 - min len 32)) && word_same (n / 2 ^ 64 % 2 ^ 32) (w / 2 ^ 64 % 2 ^ 32) (min (len - 32) 32))) j
    && word_same (n / 2 ^ 32 % 2 ^ 32) (w / 2 ^ 32 % 2 ^ 32) (min (len - 64) 32))) i
    && word_same (n % 2 ^ 32) (w % 2 ^ 32) (min (len - 96) 32))
    ∙ in_words (word_same (n / 2 ^ 96) (w / 2 ^ 96) (min len 32)) (word_same (n / 2 ^ 64 % 2 ^ 32) (w / 2 ^ 64 % 2 ^ 32) (min (len - 32) 32))
    (word_same (n / 2 ^ 32 % 2 ^ 32) (w / 2 ^ 32 % 2 ^ 32) (min (len - 64) 32)) (word_same (n % 2 ^ 32) (w % 2 ^ 32) (min (len - 96) 32))

one_word : (x w ones : ℕ) → x < 2 ^ 32 → w < 2 ^ 32 → equals_masked x (high_mask (min ones 32)) (bit_and w (high_mask (min ones 32))) ≡ word_same x w (min ones 32)
one_word x w ones p q = word_front x w (min ones 32) p q (omega arith)

v6_equal : (n w len : ℕ) → n < 2 ^ 128 → w < 2 ^ 128 → len ≤ 128 → (net : PlainNet) → net.len ≡ len →
    whole_holds true (address_words (addr.V6 n)) (net_masks net) (masked_words (net_masks net) (address_words (addr.V6 w)))
    ≡ eqb (n / 2 ^ (128 - len)) (w / 2 ^ (128 - len))
v6_equal n w len p q le net is =
    ap (λ (l : ℕ). whole_holds true (address_words (addr.V6 n)) (net_masks (record net { len = l })) (masked_words (net_masks (record net { len = l })) (address_words (addr.V6 w)))) is
    ∙ (λ i. one_word (n / 2 ^ 96) (w / 2 ^ 96) len (shr_below n 32 96 p) (shr_below w 32 96 q) i
    && (one_word (n / 2 ^ 64 % 2 ^ 32) (w / 2 ^ 64 % 2 ^ 32) (len - 32) (omega arith) (omega arith) i
    && (one_word (n / 2 ^ 32 % 2 ^ 32) (w / 2 ^ 32 % 2 ^ 32) (len - 64) (omega arith) (omega arith) i
    && one_word (n % 2 ^ 32) (w % 2 ^ 32) (len - 96) (omega arith) (omega arith) i)))
    ∙ sym (v6_words n w len le)

v4_equal : (n w len : ℕ) → n < 2 ^ 32 → w < 2 ^ 32 → len ≤ 32 → (net : PlainNet) → net.len ≡ len →
    whole_holds false (address_words (addr.V4 n)) (net_masks net) (masked_words (net_masks net) (address_words (addr.V4 w)))
    ≡ eqb (n / 2 ^ (32 - len)) (w / 2 ^ (32 - len))
v4_equal n w len p q le net is =
    let short : min net.len 32 ≡ len = omega arith in
    sym (true_last (equals_masked n (high_mask (min net.len 32)) (bit_and w (high_mask (min net.len 32)))))
    ∙ one_word n w net.len p q ∙ ap (λ l. word_same n w l) short

-- ---- networks

shl_fits : (front len size : ℕ) → len ≤ size → front < 2 ^ len → front * 2 ^ (size - len) < 2 ^ size
shl_fits front len size le lt =
    let sum : len + (size - len) ≡ size = omega arith in
    subst (λ k. front * 2 ^ (size - len) < 2 ^ k) sum (shl_below front len (size - len) lt)

-- the words of a network say which addresses of its family it contains
pub net_holds : (n : PlainNet) (a : Addr) → IsNetwork n → IsAddr a → n.family ≡ family_of a →
    whole_holds (is_v6 a) (address_words a) (net_masks n) (net_words n) ≡ contains n a
unfolding contains
net_holds n (addr.V4 x) is fits same =
    let len : n.len ≤ 32 = subst (λ f. n.len ≤ width f) same is.len in
    let w = n.front * 2 ^ (32 - n.len) in
    let first : first_addr n ≡ addr.V4 w = ap (λ f. addr_in f (n.front * 2 ^ (width f - n.len))) same in
    ap (λ f. whole_holds false (address_words (addr.V4 x)) (net_masks n) (masked_words (net_masks n) (address_words f))) first
    ∙ v4_equal x w n.len fits (shl_fits n.front n.len 32 len is.front) len n refl
    ∙ ap (λ k. eqb (x / 2 ^ (32 - n.len)) k) (shl-shr n.front (32 - n.len))
    ∙ sym (ap (λ f. same_family f V4 && eqb (x / 2 ^ (32 - n.len)) n.front) same)
net_holds n (addr.V6 x) is fits same =
    let len : n.len ≤ 128 = subst (λ f. n.len ≤ width f) same is.len in
    let w = n.front * 2 ^ (128 - n.len) in
    let first : first_addr n ≡ addr.V6 w = ap (λ f. addr_in f (n.front * 2 ^ (width f - n.len))) same in
    ap (λ f. whole_holds true (address_words (addr.V6 x)) (net_masks n) (masked_words (net_masks n) (address_words f))) first
    ∙ v6_equal x w n.len fits (shl_fits n.front n.len 128 len is.front) len n refl
    ∙ ap (λ k. eqb (x / 2 ^ (128 - n.len)) k) (shl-shr n.front (128 - n.len))
    ∙ sym (ap (λ f. same_family f V6 && eqb (x / 2 ^ (128 - n.len)) n.front) same)

-- ---- ports

pub ports_hold : (t : Option PortTest) (port : ℕ) → port < 65536 → bounds_hold (test_bounds t) port ≡ holds t (λ x. port_holds x port)
ports_hold None port p = grind (arith, nat_tests)
ports_hold (Some (Compared Equal n)) port p = grind (arith, nat_tests)
ports_hold (Some (Compared NotEqual n)) port p = grind (arith, nat_tests)
ports_hold (Some (Compared Less n)) port p = grind (arith, nat_tests)
ports_hold (Some (Compared AtMost n)) port p = grind (arith, nat_tests)
ports_hold (Some (Compared Greater n)) port p = grind (arith, nat_tests)
ports_hold (Some (Compared AtLeast n)) port p = grind (arith, nat_tests)
ports_hold (Some (Ranged Including a b)) port p = grind (arith, nat_tests)
ports_hold (Some (Ranged Excluding a b)) port p = grind (arith, nat_tests)
ports_hold (Some (Ranged Except a b)) port p = grind (arith, nat_tests)
