use Rattle.pfd_conf.specs.Junit.{testcase_text}
use Rattle.pfd_conf.proofs.Texts.{AreWrittenBefore}
use Rattle.pfd_conf.proofs.firewall.Origins.write_testcases.Given as goal

abbrev pub invariant-loop-outcome : goal.invariant-loop-outcome
invariant-loop-outcome g l =
    AreWrittenBefore (testcase_text l.self l.tried) (g.W.Write.contents l.initial.out) (g.W.Write.contents l.out) l.outcome-items l.outcome-index
