-- How numbers, addresses, directions and families are written in bytes, in a rule's form and in a peer's message. A number has its
-- highest byte first (network order, RFC 1700); the rest is this project's own.
use Rattle.std.specs.Prelude.{◌≡◌, ℕ, List, ◌++◌, drop, length, replicate, slice_index, refl}
use Rattle.byteorder.specs.Endian.{big_number, big_bytes}
use Rattle.pf_addr.specs.declared.addr.Addr.{Addr}
pub use Rattle.pf_addr.specs.NetForms.{family_byte}
use Rattle.pf_addr.specs.declared.addr.Addr.TheVariants as addr
use Rattle.pf_rule.specs.declared.{value.direction.Direction.Direction, value.direction.Direction.TheVariants.In, value.direction.Direction.TheVariants.Out}

abbrev pub byte_at : ℕ → List ℕ → ℕ
byte_at place bytes = slice_index bytes place

-- the number in `width` bytes at a place
unfoldable pub number_at : ℕ → ℕ → List ℕ → ℕ
number_at place width bytes = big_number width (drop place bytes)

-- an address in 16 bytes; an IPv4 address is in the first four, followed by zeros
abbrev pub addr_bytes : Addr → List ℕ
addr_bytes (addr.V4 n) = big_bytes 4 n ++ replicate 12 0
addr_bytes (addr.V6 n) = big_bytes 16 n

abbrev pub direction_byte : Direction → ℕ
direction_byte In = 1
direction_byte Out = 2

pub addr_bytes-length : (a : Addr) → length (addr_bytes a) ≡ 16
addr_bytes-length (addr.V4 n) = refl
addr_bytes-length (addr.V6 n) = refl
