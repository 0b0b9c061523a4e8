use Rattle.std.specs.Fn.{FnReturnsAt}
use Rattle.pfd_conf.specs.Taking.{AreRead}
use Rattle.pfd_conf.proofs.taking.take.Given as goal

abbrev pub invariant-readings : goal.invariant-readings
invariant-readings g l = AreRead (FnReturnsAt g.F.Fn l.read) l.files
