use Rattle.std.proofs.Common.{take}
use Rattle.pfd_conf.specs.Outcomes.{AreTried}
use Rattle.pfd_conf.proofs.firewall.Firewall.judged.Given as goal

abbrev pub invariant-loop-cases : goal.invariant-loop-cases
invariant-loop-cases l = AreTried l.self (take l.cases-index l.files) l.tried.items
