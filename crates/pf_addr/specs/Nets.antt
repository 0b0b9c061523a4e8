-- How a network is stored: the number of its first address, and how many of its bits are the front.
use Rattle.std.specs.Prelude.{◌≡◌, ℕ, ◌-◌, ◌*◌, ◌/◌, ◌^◌, ◌%◌, ◌<◌, ◌≤◌}
use Rattle.std.proofs.{Common.{ap, arith}, lemmas.Nat.shr_split}
use Rattle.pf_addr.specs.declared.net.Net.TheInside.{Inside}
use Rattle.pf_addr.specs.Address.{PlainNet, width}

-- how many bits come after the front
abbrev pub host_bits : Inside → ℕ
host_bits n = width n.family - n.len

abbrev pub network_in : Inside → PlainNet
network_in n = record { family = n.family; len = n.len; front = n.number / 2 ^ host_bits n }

-- the front is no longer than the address, and the bits past it are zero
pub record IsWithin (n : Inside) : Type 0 where
  pub len : n.len ≤ width n.family
  pub number : n.number < 2 ^ width n.family
  pub host : n.number % 2 ^ host_bits n ≡ 0

abbrev pub inside_of : PlainNet → Inside
inside_of n = record { family = n.family; number = n.front * 2 ^ (width n.family - n.len); len = n.len }

-- the bits past the front are zero
pub filled : (n : Inside) → IsWithin n → n.number / 2 ^ host_bits n * 2 ^ host_bits n ≡ n.number
filled n is = omega (arith, shr_split n.number (host_bits n), is.host)

pub inside_of-network_in : (n : Inside) → IsWithin n → inside_of (network_in n) ≡ n
inside_of-network_in n is = ap (λ (m : ℕ). record n { number = m }) (filled n is)
