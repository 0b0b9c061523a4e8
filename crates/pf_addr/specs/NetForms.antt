-- Families, addresses and networks in bytes. An address's bytes are in network order (RFC 791, RFC 4291).
use Rattle.std.specs.Prelude.{ℕ, ◌-◌, ◌*◌, ◌/◌, ◌^◌, ◌==◌, ◌&&◌, ◌||◌, nat_le, Bool, replicate, if◌then◌else◌}
use Rattle.pf_addr.specs.declared.addr.{TheConstants.{V4_BITS, V6_BITS}, Family.Family, Family.TheVariants.{V4, V6}}
use Rattle.pf_addr.specs.Address.{PlainNet, width}
use Rattle.pf_form.specs.Bytes.Forms.{nat, ByteForm, number, back, that}

abbrev pub family_byte : Family → ℕ
family_byte V4 = 4
family_byte V6 = 6

unfoldable pub family : ByteForm nat
family = that (λ b. (b == 4) || (b == 6)) (number 1)

-- an address of the family of this byte, in 16 bytes; an IPv4 address is in the first four, followed by zeros
abbrev pub address_in : ℕ → ByteForm nat
address_in family = if family == 4 then back (number 4) (replicate 12 0) else number 16

-- a network's front is followed by zeros
abbrev pub first_number : PlainNet → ℕ
first_number n = n.front * 2 ^ (width n.family - n.len)

abbrev pub width_of : ℕ → ℕ
width_of family = if family == 4 then V4_BITS else V6_BITS

abbrev pub ends_in_zeros : ℕ → ℕ → Bool
ends_in_zeros host n = n / 2 ^ host * 2 ^ host == n

-- The address has at least `len` bits, and those after the first `len` are zero.
abbrev pub is_network : ℕ → ℕ → ℕ → Bool
is_network family len address = nat_le len (width_of family) && ends_in_zeros (width_of family - len) address

-- ---- what the numbers mean

abbrev pub family_of_byte : ℕ → Family
family_of_byte b = if b == 4 then V4 else V6

-- the network of this family with this prefix length and this first address
abbrev pub network_at : ℕ → ℕ → ℕ → PlainNet
network_at family len address =
    record { family = family_of_byte family; len = len; front = address / 2 ^ (width (family_of_byte family) - len) }
