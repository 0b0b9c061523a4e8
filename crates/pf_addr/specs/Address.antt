-- Addresses, networks, and which network contains which address (pf.conf(5), PARAMETERS, networks in CIDR notation).
use Rattle.std.specs.Prelude.{◌≡◌, ℕ, ◌-◌, ◌/◌, ◌%◌, ◌^◌, ◌==◌, ◌<◌, ◌≤◌, Bool, true, false, ◌&&◌}
use Rattle.pf_addr.specs.declared.{addr.Addr.Addr, addr.TheConstants.{V4_BITS, V6_BITS}, addr.Family.Family, addr.Family.TheVariants.{V4, V6}}
use Rattle.pf_addr.specs.declared.addr.Addr.TheVariants as addr

-- how many bits an address of the family has
abbrev pub width : Family → ℕ
width V4 = V4_BITS
width V6 = V6_BITS

-- An address is a family and its bits.
abbrev pub family_of : Addr → Family
family_of (addr.V4 n) = V4
family_of (addr.V6 n) = V6

-- its bits as a number, the first bit the highest
abbrev pub number_in : Addr → ℕ
number_in (addr.V4 n) = n
number_in (addr.V6 n) = n

-- the number that its first `len` bits write
abbrev pub first_bits : ℕ → Addr → ℕ
first_bits len a = number_in a / 2 ^ (width (family_of a) - len)

-- A network is a family and the front of an address of it: some bits, and the number that they write.
pub record PlainNet : Type 0 where
  pub family : Family
  pub len : ℕ
  pub front : ℕ

-- the network of the addresses with the same first `len` bits
abbrev pub network_from : Addr → ℕ → PlainNet
network_from a len = record { family = family_of a; len = len; front = first_bits len a }

-- the network of one address
abbrev pub network_of : Addr → PlainNet
network_of a = network_from a (width (family_of a))

abbrev pub same_family : Family → Family → Bool
same_family V4 V4 = true
same_family V4 V6 = false
same_family V6 V4 = false
same_family V6 V6 = true

-- A network contains an address of its family that begins with its front.
unfoldable pub contains : PlainNet → Addr → Bool
contains n a = same_family n.family (family_of a) && (first_bits n.len a == n.front)

-- an address's number fits its family's bits
abbrev pub IsAddr : Addr → Type 0
IsAddr (addr.V4 n) = n < 2 ^ V4_BITS
IsAddr (addr.V6 n) = n < 2 ^ V6_BITS

-- bit i of a number with so many bits, counted from the front: bit 0 is the highest
abbrev pub bit : ℕ → ℕ → ℕ → ℕ
bit size i n = n / 2 ^ (size - 1 - i) % 2

-- The address is of the network's family, and each of its first bits, as many as the front has, is the front's.
pub record BeginsAs (net : PlainNet) (a : Addr) : Type 0 where
  pub family : family_of a ≡ net.family
  pub bits : (i : ℕ) → i < net.len → bit (width (family_of a)) i (number_in a) ≡ bit net.len i net.front

-- Two addresses are of one family and agree in each of their first `len` bits.
pub record Agree (len : ℕ) (a b : Addr) : Type 0 where
  pub family : family_of a ≡ family_of b
  pub bits : (i : ℕ) → i < len → bit (width (family_of a)) i (number_in a) ≡ bit (width (family_of b)) i (number_in b)

-- The front is no longer than an address of the family, and its number fits its bits.
pub record IsNetwork (net : PlainNet) : Type 0 where
  pub len : net.len ≤ width net.family
  pub front : net.front < 2 ^ net.len
