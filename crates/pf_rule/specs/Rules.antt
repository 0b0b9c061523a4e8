-- Rules, and which packets they match (pf.conf(5), PARAMETERS).
use Rattle.std.specs.{Prelude.{true, ◌≡◌, ◌==◌, ◌&&◌, ℕ, Bool, List, Option, Some, None, IfSome}, Str.bytes_eq}
use Rattle.pf_addr.specs.declared.addr.Family.{Family}
use Rattle.pf_addr.specs.{Address.{family_of, same_family, IsNetwork}, Path.Names.IsTableName, Path.ReferenceGrammar.IsReference}
use Rattle.pf_rule.specs.declared.{rule.Effect.Effect, rule.Effect.TheVariants.{Decide, Evaluate}, host.host.Host.Host, rule.RuleParts.RuleParts, host.host.Host.TheVariants.{Any, Net, Table}}
use Rattle.pf_rule.specs.{Value.Values.{IsInterfaceName, IsProtocol, IsLabel}, Value.Tests.{holds, same_direction}, Host.Hosts.{TableTest, host_holds}, Packets.PlainPacket, Value.Ports.{IsPortTest, port_holds, ports_fit}}

-- a rule as contracts see it: its fields
abbrev pub PlainRule : Type 0
PlainRule = RuleParts

-- the packet's addresses and ports are among those of the rule's two ends
unfoldable pub ends_hold : TableTest → PlainRule → PlainPacket → Bool
ends_hold says r p =
    host_holds says r.source p.source
    && holds r.source_port (λ t. port_holds t p.source_port)
    && host_holds says r.destination p.destination
    && holds r.destination_port (λ t. port_holds t p.destination_port)

-- a rule matches a packet for which all its tests hold; tables say what a table matches, and a label isn't a test
abbrev pub matches : TableTest → PlainRule → PlainPacket → Bool
matches says r p =
    holds r.direction (λ d. same_direction d p.direction)
    && holds r.interface (λ name. bytes_eq name p.interface)
    && holds r.family (λ f. same_family f (family_of p.source))
    && holds r.protocol (λ n. n == p.protocol)
    && ends_hold says r p

-- a host's network gives the rule its family, negated or not; a table gives it none
abbrev pub HostFits : Option Family → Host → Type 0
HostFits family Any = Unit {0}
HostFits family (Net n negated) = (family ≡ Some n.family) × IsNetwork n
HostFits family (Table name negated) = IsTableName name

-- an anchor rule names a reference
abbrev pub IsEffect : Effect → Type 0
IsEffect (Decide a) = Unit {0}
IsEffect (Evaluate r) = IsReference r

-- a rule that decides may have a label; an anchor rule has none
abbrev pub LabelFits : Effect → Option (List ℕ) → Type 0
LabelFits (Decide a) label = IfSome label IsLabel
LabelFits (Evaluate r) label = label ≡ None

-- what has a text, and so is a rule
pub record IsRule (r : PlainRule) : Type 0 where
  pub effect : IsEffect r.effect
  pub interface : IfSome r.interface IsInterfaceName
  pub protocol : IfSome r.protocol IsProtocol
  pub source : HostFits r.family r.source
  pub destination : HostFits r.family r.destination
  pub port_tests : IfSome r.source_port IsPortTest × IfSome r.destination_port IsPortTest
  pub ports : ports_fit r.protocol r.source_port r.destination_port ≡ true
  pub label : LabelFits r.effect r.label
