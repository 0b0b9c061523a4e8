use Rattle.pfd_conf.specs.Reports.{failures_text}
use Rattle.pfd_conf.proofs.Texts.{AreWrittenBefore}
use Rattle.pfd_conf.proofs.firewall.Origins.write_all_failures.Given as goal

abbrev pub invariant-loop-file : goal.invariant-loop-file
invariant-loop-file g l = AreWrittenBefore (failures_text l.self) (g.W.Write.contents l.initial.out) (g.W.Write.contents l.out) l.tried l.file-index
