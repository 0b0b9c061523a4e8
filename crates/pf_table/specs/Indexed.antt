-- The signs of a table's networks by the first bits of addresses, in a trie for each family.
use Rattle.std.specs.Prelude.{◌≡◌, ℕ, ◌-◌, ◌*◌, ◌^◌, ◌≤◌, nat_lt, cond, List, None}
use Rattle.pf_addr.specs.declared.{addr.Addr.Addr, addr.TheConstants.{V4_BITS, V6_BITS}, addr.Family.{Family, TheVariants.{V4, V6}}}
use Rattle.pf_addr.specs.declared.addr.Addr.TheVariants as addr
use Rattle.pf_addr.specs.Address.{PlainNet}
use Rattle.pf_trie.specs.{declared.prefix.Prefix.{Prefix}, Prefixes.{AllSigns, front}}
use Rattle.pf_table.specs.{Entries.PlainEntry, Tables.sign_of}

-- An address as a number with as many bits as IPv6 has: IPv4's bits are the first of them, and zeros come behind.
abbrev pub wide_number : Addr → ℕ
wide_number (addr.V4 n) = n * 2 ^ (V6_BITS - V4_BITS)
wide_number (addr.V6 n) = n

-- A network's front is a prefix of such numbers.
pub record IsPrefixOf (n : PlainNet) (p : Prefix) : Type 0 where
  pub len : n.len ≤ V6_BITS
  pub free : p.free ≡ V6_BITS - n.len
  pub front : front p ≡ n.front

-- the network of a family with this front, behind which such a number has so many bits
abbrev pub network : Family → ℕ → ℕ → PlainNet
network f free front = record { family = f; len = V6_BITS - free; front = front }

-- the signs of a family's networks, by how many bits each leaves free in such a number, and by its front
unfoldable pub signs : List PlainEntry → Family → AllSigns
signs es f free front = cond (nat_lt V6_BITS free) None (sign_of (network f free front) es)

-- Two tries, each of which has just the signs of the networks of its family. `has` says which signs a trie has.
pub record AreIn {X : Type 0} (has : AllSigns → X → Type 0) (es : List PlainEntry) (four six : X) : Type 0 where
  pub v4 : has (signs es V4) four
  pub v6 : has (signs es V6) six
