use Rattle.std.proofs.Common.{inl}
use Rattle.pfd.proofs.program.perform.Goals as goal

pub returns-in_ok-disk-in-RunOn : goal.returns-in_ok-disk-in-RunOn
returns-in_ok-disk-in-RunOn g c = rw c.in-RunOn.is (inl (c.in_ok-disk-in-RunOn.disk, c.run_on.ensures))
