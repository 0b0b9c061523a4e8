-- The one text that is written for an address or a network.
use Rattle.std.specs.{Prelude.{ℕ, ◌-◌, ◌*◌, ◌/◌, ◌%◌, ◌^◌, ◌==◌, List, [], ◌∷◌, ◌++◌, map, decimal, if◌then◌else◌}, List.join_with_byte, Int.{to_be_bytes, w32}, Net.Text.hex}
use Rattle.pf_addr.specs.declared.{addr.Addr.Addr, addr.Family.Family, addr.Family.TheVariants.{V4, V6}}
use Rattle.pf_addr.specs.declared.addr.Addr.TheVariants as addr
use Rattle.pf_addr.specs.Address.{PlainNet, width}

-- the 16 bits that end so many bits before a V6 address's end, in lower-case hexadecimal without leading zeros
abbrev pub group_text : ℕ → ℕ → List ℕ
group_text n k = hex (n / 2 ^ k % 2 ^ 16)

-- V4 as four decimal numbers between dots (46), V6 as eight groups between colons (58) (RFC 4291 section 2.2, form 1)
abbrev pub addr_text : Addr → List ℕ
addr_text (addr.V4 n) = join_with_byte 46 (map decimal (to_be_bytes w32 n))
addr_text (addr.V6 n) = join_with_byte 58 (map (group_text n) (112 ∷ 96 ∷ 80 ∷ 64 ∷ 48 ∷ 32 ∷ 16 ∷ 0 ∷ []))

abbrev pub addr_in : Family → ℕ → Addr
addr_in V4 n = addr.V4 n
addr_in V6 n = addr.V6 n

-- the first address of a network: zeros follow its front
abbrev pub first_addr : PlainNet → Addr
first_addr net = addr_in net.family (net.front * 2 ^ (width net.family - net.len))

-- a slash (47) and how many bits the front has, if the network has more than one address
abbrev pub length_text : PlainNet → List ℕ
length_text net = if net.len == width net.family then [] else 47 ∷ decimal net.len

abbrev pub net_text : PlainNet → List ℕ
net_text net = addr_text (first_addr net) ++ length_text net
