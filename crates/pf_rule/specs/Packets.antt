-- What the filter sees of a packet. A packet here is a value, and carries no flags.
use Rattle.std.specs.Prelude.{◌≡◌, ◌<◌, ◌==◌, ◌&&◌, ◌||◌, Bool, false}
use Rattle.pf_addr.specs.Address.{family_of, same_family, IsAddr}
use Rattle.pf_rule.specs.declared.packet.PacketParts.{PacketParts}
use Rattle.pf_rule.specs.Value.Values.{IsInterfaceName, IsProtocol, has_ports}

-- a packet as contracts see it: its fields
abbrev pub PlainPacket : Type 0
PlainPacket = PacketParts

-- what every packet maintains: addresses of one family, and ports only for a protocol that has them
pub record IsPacket (p : PlainPacket) : Type 0 where
  pub interface : IsInterfaceName p.interface
  pub protocol : IsProtocol p.protocol
  pub addresses : IsAddr p.source × IsAddr p.destination
  pub families : family_of p.source ≡ family_of p.destination
  pub ports : (p.source_port < 65536) × (p.destination_port < 65536)
  pub no_ports : has_ports p.protocol ≡ false → (p.source_port ≡ 0) × (p.destination_port ≡ 0)

-- whether a direction, an interface, a protocol, and two addresses with ports are those of a packet
abbrev pub is_packet : PlainPacket → Bool
is_packet p = same_family (family_of p.source) (family_of p.destination) && (has_ports p.protocol || ((p.source_port == 0) && (p.destination_port == 0)))
