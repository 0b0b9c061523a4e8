-- Flows: what a state is looked up by (pf.conf(5)). That the interface is no part of a flow is our own choice.
use Rattle.std.specs.Prelude.{◌≡◌, ℕ, ◌<◌, ◌==◌, ◌&&◌, ◌||◌, Bool, false}
use Rattle.pf_addr.specs.{declared.{addr.Addr.Addr, addr.Addr.TheVariants.V4, addr.Addr.TheVariants.V6}, Address.{family_of, same_family, IsAddr}}
use Rattle.pf_rule.specs.{declared.{value.direction.Direction.Direction, value.direction.Direction.TheVariants.In, value.direction.Direction.TheVariants.Out}, Value.Values.{IsProtocol, has_ports}, Value.Tests.same_direction, Packets.PlainPacket}

-- a flow as contracts see it: what its packets have in common, as the first of them has it
pub record PlainFlow : Type 0 where
  pub direction : Direction
  pub protocol : ℕ
  pub source : Addr
  pub source_port : ℕ
  pub destination : Addr
  pub destination_port : ℕ

-- the invariant of a flow: addresses of one family, and no ports unless its protocol has them
pub record IsFlow (f : PlainFlow) : Type 0 where
  pub protocol : IsProtocol f.protocol
  pub addresses : IsAddr f.source × IsAddr f.destination
  pub families : family_of f.source ≡ family_of f.destination
  pub ports : (f.source_port < 65536) × (f.destination_port < 65536)
  pub no_ports : has_ports f.protocol ≡ false → (f.source_port ≡ 0) × (f.destination_port ≡ 0)

-- the same as a test, for fields that are each of their type
abbrev pub is_flow : PlainFlow → Bool
is_flow f = same_family (family_of f.source) (family_of f.destination)
    && (has_ports f.protocol || (f.source_port == 0) && (f.destination_port == 0))

-- a packet's flow: all of the packet but its interface
abbrev pub flow_of : PlainPacket → PlainFlow
flow_of p = record {
  direction = p.direction;
  protocol = p.protocol;
  source = p.source;
  source_port = p.source_port;
  destination = p.destination;
  destination_port = p.destination_port;
}

-- ---- which flows are one

abbrev pub other_way : Direction → Direction
other_way In = Out
other_way Out = In

-- as the answers have it: the other direction, with the ends exchanged
abbrev pub turned : PlainFlow → PlainFlow
turned f = record {
  direction = other_way f.direction;
  protocol = f.protocol;
  source = f.destination;
  source_port = f.destination_port;
  destination = f.source;
  destination_port = f.source_port;
}

abbrev pub same_addr : Addr → Addr → Bool
same_addr (V4 a) (V4 b) = a == b
same_addr (V4 a) (V6 b) = false
same_addr (V6 a) (V4 b) = false
same_addr (V6 a) (V6 b) = a == b

-- all fields are equal
abbrev pub is_equal : PlainFlow → PlainFlow → Bool
is_equal f g =
    same_direction f.direction g.direction
    && (f.protocol == g.protocol)
    && same_addr f.source g.source
    && (f.source_port == g.source_port)
    && same_addr f.destination g.destination
    && (f.destination_port == g.destination_port)

-- two are one flow if they are equal, or one is the other turned
unfoldable pub same_flow : PlainFlow → PlainFlow → Bool
same_flow f g = is_equal f g || is_equal f (turned g)
