-- Hosts that aren't tables don't look at what tables say.
use Rattle.std.proofs.Common.{refl}
use Rattle.pf_rule.specs.declared.host.host.Host.TheVariants.{Any, Net, Table}
use Rattle.pf_rule.specs.{Laws.Matching.{HostAsksNoTable, RuleAsksNoTable}, Rules.ends_hold}

pub host_asks_none : HostAsksNoTable
host_asks_none says other Any a is = refl
host_asks_none says other (Net n negated) a is = refl
host_asks_none says other (Table name negated) a is = absurd cc

pub rule_asks_none : RuleAsksNoTable
unfolding ends_hold
rule_asks_none says other r p s d = rw (host_asks_none says other r.source p.source s, host_asks_none says other r.destination p.destination d) refl
