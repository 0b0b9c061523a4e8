-- Which addresses a network contains, bit by bit.
use Rattle.std.proofs.{Common.{◌≡◌, ℕ, ◌+◌, ◌-◌, ◌/◌, ◌%◌, ◌^◌, ◌<◌, ◌≤◌, ◌==◌, Decides, refl, sym, ap, ◌∙◌, subst, arith, true≢false}, lemmas.Bool.Decides.{Decides-and, Decides-eqb, Decides-like}, lemmas.Nat.{shr-shr, shr_below}, lemmas.Nat.Bits.same_from_bits_below}
use Rattle.pf_addr.specs.declared.{addr.Addr.Addr, addr.Family.Family, addr.Family.TheVariants.{V4, V6}}
use Rattle.pf_addr.specs.declared.addr.Addr.TheVariants as addr
use Rattle.pf_addr.specs.Address.{PlainNet, IsNetwork, width, family_of, number_in, first_bits, network_from, same_family, contains, IsAddr, bit, BeginsAs, Agree}

pub one_family : (f g : Family) → Decides (same_family f g) (f ≡ g)
one_family V4 V4 = (λ _. refl, λ _. refl)
one_family V4 V6 = (λ e. absurd (true≢false (sym e)), λ e. sym (ap (same_family V4) e))
one_family V6 V4 = (λ e. absurd (true≢false (sym e)), λ e. sym (ap (same_family V6) e))
one_family V6 V6 = (λ _. refl, λ _. refl)

pub number_below : (a : Addr) → IsAddr a → number_in a < 2 ^ width (family_of a)
number_below (addr.V4 n) is = is
number_below (addr.V6 n) is = is

-- the bits of a number's front are its first
bit_of_front : (size len n i : ℕ) → len ≤ size → i < len → bit len i (n / 2 ^ (size - len)) ≡ bit size i n
bit_of_front size len n i le lt =
    let sum : size - len + (len - 1 - i) ≡ size - 1 - i = omega arith in
    ap (λ (m : ℕ). m % 2) (shr-shr n (size - len) (len - 1 - i) ∙ ap (λ (k : ℕ). n / 2 ^ k) sum)

-- the front of a number is written by its bits
pub front_below : (size len n : ℕ) → len ≤ size → n < 2 ^ size → n / 2 ^ (size - len) < 2 ^ len
front_below size len n le lt =
    let sum : len + (size - len) ≡ size = omega arith in
    shr_below n len (size - len) (rw sum lt)

-- two numbers of so many bits that agree in each bit are the same
same_by_bits : (size a b : ℕ) → a < 2 ^ size → b < 2 ^ size → ((i : ℕ) → i < size → bit size i a ≡ bit size i b) → a ≡ b
same_by_bits size a b p q same = same_from_bits_below size a b p q (λ i lt.
    let turned : size - 1 - (size - 1 - i) ≡ i = omega arith in
    subst (λ (k : ℕ). a / 2 ^ k % 2 ≡ b / 2 ^ k % 2) turned (same (size - 1 - i) (omega arith)))

-- a network contains exactly the addresses of its family whose first bits are its front's
pub contains_by_bits : (net : PlainNet) (a : Addr) → IsNetwork net → IsAddr a → Decides (contains net a) (BeginsAs net a)
unfolding contains
contains_by_bits net a whole is =
    let within : family_of a ≡ net.family → net.len ≤ width (family_of a) = λ e. subst (λ (f : Family). net.len ≤ width f) (sym e) whole.len in
    let own : (e : family_of a ≡ net.family) (i : ℕ) → i < net.len → bit net.len i (first_bits net.len a) ≡ bit (width (family_of a)) i (number_in a) =
    λ e i lt. bit_of_front (width (family_of a)) net.len (number_in a) i (within e) lt in
    Decides-like (contains net a)
    (λ h. record { family = sym h.0; bits = λ i lt. sym (own (sym h.0) i lt) ∙ ap (bit net.len i) h.1 })
    (λ b. (
      sym b.family,
      same_by_bits net.len (first_bits net.len a) net.front
          (front_below (width (family_of a)) net.len (number_in a) (within b.family) (number_below a is)) whole.front
          (λ i lt. own b.family i lt ∙ b.bits i lt),
    ))
    (Decides-and (same_family net.family (family_of a)) (first_bits net.len a == net.front) (one_family net.family (family_of a)) (Decides-eqb (first_bits net.len a) net.front))

-- the network of an address contains exactly the addresses that agree with it in the first bits
pub network_agrees : (a b : Addr) (len : ℕ) → len ≤ width (family_of b) → IsAddr a → IsAddr b → Decides (contains (network_from b len) a) (Agree len a b)
network_agrees a b len le p q =
    let own : (i : ℕ) → i < len → bit len i (first_bits len b) ≡ bit (width (family_of b)) i (number_in b) =
    λ i lt. bit_of_front (width (family_of b)) len (number_in b) i le lt in
    Decides-like (contains (network_from b len) a)
    (λ h. record { family = h.family; bits = λ i lt. h.bits i lt ∙ own i lt })
    (λ h. record { family = h.family; bits = λ i lt. h.bits i lt ∙ sym (own i lt) })
    (contains_by_bits (network_from b len) a (record { len = le; front = front_below (width (family_of b)) len (number_in b) le (number_below b q) }) p)
