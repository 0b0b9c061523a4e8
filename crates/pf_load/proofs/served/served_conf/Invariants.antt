use Rattle.std.proofs.Common.{Ok}
use Rattle.pf_commit.specs.declared.fault.Fault.{Fault}
use Rattle.pf_load.specs.Served.{AsksOnly}
use Rattle.pf_load.proofs.served.served_conf.Given as goal

abbrev pub invariant-loop-number : goal.invariant-loop-number
invariant-loop-number g l = AsksOnly {A = Unit {0}} {E = Fault} (Ok tt) (g.W.Write.contents l.initial.server) (g.W.Write.contents l.server)
