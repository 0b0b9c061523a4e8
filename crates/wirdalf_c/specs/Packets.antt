-- Which packet C's record says.
use Rattle.std.specs.{Prelude.{ℕ, ◌==◌, ◌&&◌, ◌||◌, nat_lt, Bool, List, take, length, unwrap_or, Option, Some, None, if◌then◌else◌}, List.position, Int.{from_be_bytes, w32, w128}, Result.is_ok}
use Rattle.pf_addr.specs.declared.addr.Addr.{Addr}
use Rattle.pf_addr.specs.declared.addr.Addr.TheVariants as addr
use Rattle.pf_rule.specs.{Packets.{PlainPacket, is_packet}, Value.Values.interface_of, declared.value.direction.Direction.TheVariants.{In, Out}}
use Rattle.wirdalf_c.specs.declared.record.{PacketRecord.PacketRecord, TheConstants.{WAY_IN, WAY_OUT, FAMILY_V4, FAMILY_V6}}

-- a name in C: the bytes before the first zero
abbrev pub name_in : List ℕ → List ℕ
name_in bytes = take (unwrap_or (position (λ b. b == 0) bytes) (length bytes)) bytes

-- an address in network order: four bytes, or 16
abbrev pub address_in : ℕ → List ℕ → Addr
address_in family bytes = if family == FAMILY_V4 then addr.V4 (from_be_bytes w32 (take 4 bytes)) else addr.V6 (from_be_bytes w128 bytes)

abbrev pub is_family : ℕ → Bool
is_family family = (family == FAMILY_V4) || (family == FAMILY_V6)

-- whether the way, the family and the protocol are such
abbrev pub has_known_numbers : PacketRecord → Bool
has_known_numbers r = ((r.way == WAY_IN) || (r.way == WAY_OUT)) && (is_family r.family && nat_lt 0 r.protocol)

-- what its fields say
abbrev pub said_by : PacketRecord → PlainPacket
said_by r = record {
  direction = if r.way == WAY_IN then In else Out;
  interface = name_in r.interface;
  protocol = r.protocol;
  source = address_in r.family r.source;
  source_port = r.source_port;
  destination = address_in r.family r.destination;
  destination_port = r.destination_port;
}

-- the packet, if they say one
abbrev pub packet_in : PacketRecord → Option PlainPacket
packet_in r =
    if has_known_numbers r && (is_ok (interface_of (name_in r.interface)) && is_packet (said_by r)) then Some (said_by r) else None
