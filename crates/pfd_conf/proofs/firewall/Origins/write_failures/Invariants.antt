use Rattle.pfd_conf.specs.Reports.{failure_line}
use Rattle.pfd_conf.proofs.Texts.{AreWrittenBefore}
use Rattle.pfd_conf.proofs.firewall.Origins.write_failures.Given as goal

abbrev pub invariant-loop-outcome : goal.invariant-loop-outcome
invariant-loop-outcome g l =
    AreWrittenBefore (failure_line l.self l.tried) (g.W.Write.contents l.initial.out) (g.W.Write.contents l.out) l.outcome-items l.outcome-index
