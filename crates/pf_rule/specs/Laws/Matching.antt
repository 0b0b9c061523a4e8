-- What follows from the definition of a match, as laws in contracts.
use Rattle.std.specs.Prelude.{◌≡◌, Bool, true, false}
use Rattle.pf_addr.specs.declared.addr.Addr.{Addr}
use Rattle.pf_rule.specs.declared.{host.host.Host.Host, host.host.Host.TheVariants.{Any, Net, Table}}
use Rattle.pf_rule.specs.{Host.Hosts.{TableTest, host_holds}, Packets.PlainPacket, Rules.{PlainRule, matches}}

abbrev pub is_table : Host → Bool
is_table Any = false
is_table (Net n negated) = false
is_table (Table name negated) = true

-- what tables say makes no difference to a host that isn't a table
abbrev pub HostAsksNoTable : Type 0
HostAsksNoTable = (says other : TableTest) (h : Host) (a : Addr) → is_table h ≡ false → host_holds says h a ≡ host_holds other h a

-- nor to a rule without one
abbrev pub RuleAsksNoTable : Type 0
RuleAsksNoTable = (says other : TableTest) (r : PlainRule) (p : PlainPacket) → is_table r.source ≡ false → is_table r.destination ≡ false →
    matches says r p ≡ matches other r p
