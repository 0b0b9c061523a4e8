-- A match in the order in which the code tests it: ports, then networks, and last tables, which cost most.
use Rattle.std.proofs.Common.{◌≡◌, true, false, refl, arith}
use Rattle.std.specs.Prelude.{Bool, ◌&&◌}
use Rattle.pf_addr.specs.declared.addr.Addr.{Addr}
use Rattle.pf_addr.specs.Address.{contains}
use Rattle.pf_rule.specs.declared.{host.host.Host.Host, host.host.Host.TheVariants.{Any, Net, Table}}
use Rattle.pf_rule.specs.{Host.Hosts.{TableTest, inverted, host_holds, network_holds, table_holds}, Packets.PlainPacket, Value.Tests.holds, Value.Ports.port_holds, Rules.{PlainRule, ends_hold}}

abbrev pub ports_hold : PlainRule → PlainPacket → Bool
ports_hold r p = holds r.source_port (λ t. port_holds t p.source_port) && holds r.destination_port (λ t. port_holds t p.destination_port)

abbrev pub networks_hold : PlainRule → PlainPacket → Bool
networks_hold r p = network_holds r.source p.source && network_holds r.destination p.destination

abbrev pub tables_hold : TableTest → PlainRule → PlainPacket → Bool
tables_hold says r p = table_holds says r.source p.source && table_holds says r.destination p.destination

-- ---- it is the same match

true_last : (b : Bool) → b ≡ (b && true)
true_last true = refl
true_last false = refl

in_parts : (says : TableTest) (h : Host) (a : Addr) → host_holds says h a ≡ (network_holds h a && table_holds says h a)
in_parts says Any a = refl
in_parts says (Net n negated) a = true_last (inverted negated (contains n a))
in_parts says (Table name negated) a = refl

in_turn : (a b p c d q : Bool) → ((a && b) && p && (c && d) && q) ≡ ((p && q) && (a && c) && (b && d))
in_turn a b p c d q = grind arith

pub ends_in_turn : (says : TableTest) (r : PlainRule) (p : PlainPacket) →
    ends_hold says r p ≡ (ports_hold r p && networks_hold r p && tables_hold says r p)
unfolding ends_hold
ends_in_turn says r p =
    rw (in_parts says r.source p.source, in_parts says r.destination p.destination)
    (in_turn (network_holds r.source p.source) (table_holds says r.source p.source) (holds r.source_port (λ t. port_holds t p.source_port))
    (network_holds r.destination p.destination) (table_holds says r.destination p.destination)
    (holds r.destination_port (λ t. port_holds t p.destination_port)))
