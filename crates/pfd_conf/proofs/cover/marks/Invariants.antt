use Rattle.std.proofs.Common.{take}
use Rattle.pfd_conf.specs.Covering.{AreMarks, decides_some}
use Rattle.pfd_conf.proofs.cover.marks.Given as goal

abbrev pub invariant-loop-file : goal.invariant-loop-file
invariant-loop-file l = AreMarks (λ k. decides_some l.within k (take l.file-index l.tried)) l.count l.marks.items
