-- The first bytes of a text as a number, byte by byte.
use Rattle.std.proofs.Common.{◌≡◌, ℕ, zero, suc, ◌+◌, ◌*◌, ◌^◌, ◌<◌, nat_lt, true, List, [], ◌∷◌, get_or, refl, sym, ap, ◌∙◌, arith}
use Rattle.std.proofs.lemmas.Bool.{lt-ltb}
use Rattle.std.proofs.Math.Nat.{mul_assoc}
use Rattle.pf_addr.specs.Path.FirstBytes.{front_number}

-- one byte more
pub next_byte : (n : ℕ) (bs : List ℕ) → ((i : ℕ) → get_or bs i 0 < 256) → front_number (suc n) bs ≡ front_number n bs * 256 + get_or bs n 0
next_byte zero [] bytes = refl
next_byte (suc n) [] bytes = refl
next_byte zero (b ∷ bs) bytes = let is : nat_lt b 256 ≡ true = lt-ltb b 256 (bytes 0) in rw is (omega arith)
next_byte (suc n) (b ∷ bs) bytes =
    let is : nat_lt b 256 ≡ true = lt-ltb b 256 (bytes 0) in
    let rest = next_byte n bs (λ i. bytes (suc i)) in
    let grows : 256 ^ suc n ≡ 256 ^ n * 256 = omega arith in
    let power : b * 256 ^ suc n ≡ b * 256 ^ n * 256 = ap (λ k. b * k) grows ∙ sym (mul_assoc b (256 ^ n) 256) in
    rw is (omega (arith, rest, power))
