-- The keys by which flows are looked up: one key for both directions of a flow, and an order of keys in which a number mixed from all
-- fields decides first.
use Rattle.std.specs.{Prelude.{◌≡◌, ℕ, ◌+◌, ◌*◌, ◌/◌, ◌%◌, ◌^◌, bit_xor}, Ordering.{ordering_then, nat_cmp}}
use Rattle.std.specs.declared.cmp.Ordering.{Ordering}
use Rattle.std.proofs.Common.{refl}
use Rattle.pf_addr.specs.declared.{addr.Addr.Addr, addr.Addr.TheVariants.V4, addr.Addr.TheVariants.V6}
use Rattle.pf_rule.specs.declared.{value.direction.Direction.Direction, value.direction.Direction.TheVariants.In, value.direction.Direction.TheVariants.Out}
use Rattle.pf_state.specs.{declared.flow_key.FlowEnds.FlowEnds, Flows.PlainFlow}

-- ---- keys

-- the protocol and the ends of a flow, as its first packet has them
abbrev pub ends_of : PlainFlow → FlowEnds
ends_of f = record {
  protocol = f.protocol;
  source = f.source;
  source_port = f.source_port;
  destination = f.destination;
  destination_port = f.destination_port;
}

-- the flow with these ends
abbrev pub flow_between : Direction → FlowEnds → PlainFlow
flow_between d e = record {
  direction = d;
  protocol = e.protocol;
  source = e.source;
  source_port = e.source_port;
  destination = e.destination;
  destination_port = e.destination_port;
}

abbrev pub exchanged : FlowEnds → FlowEnds
exchanged e = record {
  protocol = e.protocol;
  source = e.destination;
  source_port = e.destination_port;
  destination = e.source;
  destination_port = e.source_port;
}

-- turns the ends of a flow of this direction into those that incoming packets have, and back
abbrev pub inward : Direction → FlowEnds → FlowEnds
inward In e = e
inward Out e = exchanged e

-- the ends of a flow as its incoming packets have them: the same for both directions of the flow
abbrev pub key_of : PlainFlow → FlowEnds
key_of f = inward f.direction (ends_of f)

-- the flow in this direction that has the key
abbrev pub flow_by : Direction → FlowEnds → PlainFlow
flow_by d k = flow_between d (inward d k)

-- the flow that a key gives, in either direction, has that key
pub key_back : (d : Direction) (k : FlowEnds) → key_of (flow_by d k) ≡ k
key_back In k = refl
key_back Out k = refl

-- ---- their order

abbrev pub family_rank : Addr → ℕ
family_rank (V4 n) = 0
family_rank (V6 n) = 1

abbrev pub number_of : Addr → ℕ
number_of (V4 n) = n
number_of (V6 n) = n

-- IPv4 first, then by the number
abbrev pub addr_order : Addr → Addr → Ordering
addr_order a b = ordering_then (nat_cmp (family_rank a) (family_rank b)) (nat_cmp (number_of a) (number_of b))

-- by the protocol, the ports and the addresses
abbrev pub ends_order : FlowEnds → FlowEnds → Ordering
ends_order a b =
    ordering_then (nat_cmp a.protocol b.protocol)
    (ordering_then (nat_cmp a.source_port b.source_port)
    (ordering_then (nat_cmp a.destination_port b.destination_port)
    (ordering_then (addr_order a.source b.source)
    (addr_order a.destination b.destination))))

abbrev pub folded : ℕ → ℕ
folded n = bit_xor n (n / 2 ^ 32)

-- one more part, mixed into a number of 64 bits
unfoldable pub stirred : ℕ → ℕ → ℕ
stirred state part = folded ((bit_xor state part * 11400714819323198485) % 2 ^ 64)

abbrev pub with_addr : ℕ → Addr → ℕ
with_addr state (V4 n) = stirred state n
with_addr state (V6 n) = stirred (stirred state (n / 2 ^ 64)) (n % 2 ^ 64)

-- a number that is mixed from all fields
abbrev pub mixed : FlowEnds → ℕ
mixed e = with_addr (with_addr (stirred 0 ((e.source_port * 65536 + e.destination_port) * 256 + e.protocol)) e.source) e.destination

-- by the mixed number, and if these tie by the fields
abbrev pub key_order : FlowEnds → FlowEnds → Ordering
key_order a b = ordering_then (nat_cmp (mixed a) (mixed b)) (ends_order a b)
