-- A flow in 40 bytes, as a peer's record and a stored state have it.
--
--   place width field                place width field
--       0     1 direction, 1 or 2        4    16 source, IPv4 in the first four
--       1     1 family, 4 or 6          20    16 destination, as the source
--       2     1 protocol                36     2 source port
--       3     1 zero                    38     2 destination port
use Rattle.std.specs.Prelude.{ℕ, ◌==◌, ◌&&◌, ◌||◌, not, [], ◌∷◌, replicate, if◌then◌else◌}
use Rattle.pf_addr.specs.{Address.{family_of, number_in}, declared.addr.Addr.{Addr, TheVariants.{V4, V6}}}
use Rattle.pf_form.specs.Bytes.Forms.{Shape, nat, both, Value, ByteForm, nothing, number, front, back, pair, pair_by, that}
use Rattle.pf_rule.specs.{Bytes.{direction_byte, family_byte}, Value.Values.has_ports, declared.{value.direction.Direction.Direction, value.direction.Direction.TheVariants.In, value.direction.Direction.TheVariants.Out}}
use Rattle.pf_state.specs.Flows.{PlainFlow}

-- ---- its parts

unfoldable pub direction_form : ByteForm nat
direction_form = that (λ b. (b == 1) || (b == 2)) (number 1)

unfoldable pub family_form : ByteForm nat
family_form = that (λ b. (b == 4) || (b == 6)) (number 1)

unfoldable pub protocol_form : ByteForm nat
protocol_form = that (λ b. not (b == 0)) (number 1)

-- a family's byte, and an address's number
abbrev pub AddrShape : Shape
AddrShape = both nat nat

-- an address of a known family, in 16 bytes
abbrev pub addr_form : ℕ → ByteForm AddrShape
addr_form family = pair (nothing family) (if family == 4 then back (number 4) (replicate 12 0) else number 16)

abbrev pub PortsShape : Shape
PortsShape = both nat nat

-- 0 if the protocol has none
unfoldable pub ports_form : ℕ → ByteForm PortsShape
ports_form protocol = that (λ n. has_ports protocol || ((n.0 == 0) && (n.1 == 0))) (pair (number 2) (number 2))

-- ---- the form

abbrev pub FlowShape : Shape
FlowShape = both nat (both nat (both nat (both AddrShape (both AddrShape PortsShape))))

unfoldable pub flow_form : ByteForm FlowShape
flow_form = pair direction_form (pair_by family_form (λ f. pair_by protocol_form (λ p. front (0 ∷ []) (pair (addr_form f) (pair (addr_form f) (ports_form p))))))

-- ---- plain data

abbrev pub plain_addr : Addr → Value AddrShape
plain_addr a = (family_byte (family_of a), number_in a)

abbrev pub plain_flow : PlainFlow → Value FlowShape
plain_flow f = (direction_byte f.direction, (family_byte (family_of f.source), (f.protocol, (plain_addr f.source, (plain_addr f.destination, (f.source_port, f.destination_port))))))

-- the flow that has these plain data
abbrev pub direction_in : ℕ → Direction
direction_in b = if b == 1 then In else Out

abbrev pub addr_in : Value AddrShape → Addr
addr_in a = if a.0 == 4 then V4 a.1 else V6 a.1

abbrev pub flow_in : Value FlowShape → PlainFlow
flow_in v = record {
  direction = direction_in v.0;
  protocol = v.1.1.0;
  source = addr_in v.1.1.1.0;
  destination = addr_in v.1.1.1.1.0;
  source_port = v.1.1.1.1.1.0;
  destination_port = v.1.1.1.1.1.1;
}
