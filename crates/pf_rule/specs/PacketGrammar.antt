-- The grammar of a packet.
use Rattle.std.specs.Prelude.{◌≡◌, ℕ, true, List, codes, Result, Ok, Err, if◌then◌else◌}
use Rattle.std.proofs.Common.{refl}
use Rattle.pf_addr.specs.Address.{family_of, same_family}
use Rattle.pf_form.specs.Form.Forms.{Form, nothing, key, or, pair, pair_by, making, is_decided}
use Rattle.pf_addr.specs.declared.addr.Addr.{Addr}
use Rattle.pf_rule.specs.declared.{value.direction.Direction.Direction, value.direction.Direction.TheVariants.{In, Out}, fault.Mistake.Mistake, fault.Mistake.TheVariants.MixedFamily}
use Rattle.pf_rule.specs.{Value.Values.{has_ports, an_interface, a_protocol, an_address, a_port}, Packets.PlainPacket}

-- "in" | "out"
unfoldable pub way : Form Direction
way = or (codes "in") (nothing In) (key (codes "out") (nothing Out))

abbrev pub packet_with : Direction × (List ℕ × (ℕ × (Addr × (ℕ × (Addr × ℕ))))) → PlainPacket
packet_with (d, (i, (p, (s, (sp, (t, tp)))))) =
    record { direction = d; interface = i; protocol = p; source = s; source_port = sp; destination = t; destination_port = tp }

-- direction, interface, protocol, source, its port, destination, its port
abbrev pub packet_words : Form PlainPacket
packet_words =
    making packet_with (pair way (pair an_interface (pair_by a_protocol has_ports (λ ports.
    pair an_address (pair (a_port ports) (pair an_address (a_port ports)))))))

-- after the last word: the addresses of a packet are of one family
abbrev pub of_one_family : PlainPacket → Result PlainPacket Mistake
of_one_family p = if same_family (family_of p.source) (family_of p.destination) then Ok p else Err MixedFamily

-- The words of a packet, or of addresses of different families.
unfoldable pub packet : Form (Result PlainPacket Mistake)
packet = making of_one_family packet_words

-- One word of look-ahead suffices.
pub packet_decided : is_decided packet ≡ true
unfolding packet way
packet_decided = refl
