-- Each network can be written in bytes, and is read back from them.
use Rattle.std.proofs.{Common.{◌≡◌, ℕ, ◌+◌, ◌-◌, ◌*◌, ◌/◌, ◌^◌, ◌<◌, ◌≤◌, true, refl, ap, arith}, lemmas.Bool.{eq-eqb, le-leb}, lemmas.Nat.{shl_below, shl-shr}}
use Rattle.pf_addr.specs.declared.addr.{Family.Family, Family.TheVariants.{V4, V6}}
use Rattle.pf_addr.specs.{Address.{PlainNet, IsNetwork, width}, NetForms.{family_byte, family, address_in, first_number, is_network, ends_in_zeros, network_at}}
use Rattle.pf_form.specs.Bytes.Forms.{Fits}

abbrev network : Family → ℕ → ℕ → PlainNet
network f len front = record { family = f; len = len; front = front }

below : (size len front : ℕ) → len ≤ size → front < 2 ^ len → front * 2 ^ (size - len) < 2 ^ size
below size len front le lt = let sum : len + (size - len) ≡ size = omega arith in rw sum at (shl_below front len (size - len) lt)

zeros_after : (front host : ℕ) → ends_in_zeros host (front * 2 ^ host) ≡ true
zeros_after front host = eq-eqb (front * 2 ^ host / 2 ^ host * 2 ^ host) (front * 2 ^ host) (ap (λ (m : ℕ). m * 2 ^ host) (shl-shr front host))

pub family_fits : (f : Family) → Fits family (family_byte f)
unfolding family
family_fits V4 = (omega arith, refl)
family_fits V6 = (omega arith, refl)

pub length_fits : (n : PlainNet) → IsNetwork n → n.len < 256
length_fits n is = by n.family is.len where
  by : (f : Family) → n.len ≤ width f → n.len < 256
  by V4 le = omega (arith, le)
  by V6 le = omega (arith, le)

pub address_fits : (n : PlainNet) → IsNetwork n → Fits (address_in (family_byte n.family)) (first_number n)
address_fits n is = by n.family is.len where
  by : (f : Family) → n.len ≤ width f → Fits (address_in (family_byte f)) (first_number (network f n.len n.front))
  by V4 le = below 32 n.len n.front le is.front
  by V6 le = below 128 n.len n.front le is.front

pub network_is : (n : PlainNet) → IsNetwork n → is_network (family_byte n.family) n.len (first_number n) ≡ true
network_is n is = by n.family is.len where
  by : (f : Family) → n.len ≤ width f → is_network (family_byte f) n.len (first_number (network f n.len n.front)) ≡ true
  by V4 le = rw (le-leb n.len 32 le) (zeros_after n.front (32 - n.len))
  by V6 le = rw (le-leb n.len 128 le) (zeros_after n.front (128 - n.len))

pub network_again : (n : PlainNet) → network_at (family_byte n.family) n.len (first_number n) ≡ n
network_again n = by n.family n.len n.front where
  by : (f : Family) (len front : ℕ) → network_at (family_byte f) len (first_number (network f len front)) ≡ network f len front
  by V4 len front = ap (λ (m : ℕ). network V4 len m) (shl-shr front (32 - len))
  by V6 len front = ap (λ (m : ℕ). network V6 len m) (shl-shr front (128 - len))
