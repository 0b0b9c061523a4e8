-- Given answers, and what tables say.
use Rattle.std.proofs.Common.{◌≡◌, Bool, ◌&&◌, refl, ap}
use Rattle.std.specs.{Prelude.{◌==◌}, Str.bytes_eq}
use Rattle.pf_addr.specs.declared.addr.Addr.{Addr}
use Rattle.pf_addr.specs.Address.{family_of, same_family}
use Rattle.pf_rule.specs.declared.{host.host.Host.Host, host.host.Host.TheVariants.{Any, Net, Table}}
use Rattle.pf_rule.specs.{Value.Tests.{holds, same_direction}, Value.Ports.port_holds, Host.Hosts.{TableTest, inverted, host_holds}, Packets.PlainPacket, Rules.{PlainRule, matches, ends_hold}}
use Rattle.pf_lanes.specs.Answered.{AnswersFor, answered, matches_answered}

same_host : (says : TableTest) (h : Host) (a : Addr) (answer : Bool) → AnswersFor says h a answer → host_holds (answered answer) h a ≡ host_holds says h a
same_host says Any a answer is = refl
same_host says (Net n negated) a answer is = refl
same_host says (Table name negated) a answer is = ap (inverted negated) is

abbrev pub matches_front : PlainRule → PlainPacket → Bool
matches_front r p =
    (((holds r.direction (λ d. same_direction d p.direction) && holds r.interface (λ name. bytes_eq name p.interface))
    && holds r.family (λ f. same_family f (family_of p.source))) && holds r.protocol (λ n. n == p.protocol))

pub same_match : (says : TableTest) (r : PlainRule) (p : PlainPacket) (source destination : Bool) →
    AnswersFor says r.source p.source source → AnswersFor says r.destination p.destination destination → matches_answered source destination r p ≡ matches says r p
unfolding ends_hold
same_match says r p source destination s d =
    let from = same_host says r.source p.source source s in
    let to = same_host says r.destination p.destination destination d in
    λ i. matches_front r p && (((from i && holds r.source_port (λ t. port_holds t p.source_port)) && to i) && holds r.destination_port (λ t. port_holds t p.destination_port))
