use Rattle.std.proofs.Common.{length}
use Rattle.pf_conf.proofs.CommitTexts.{SentSome}
use Rattle.pf_commit.proofs.loading.offer.Given as goal

abbrev pub invariant-loop-left : goal.invariant-loop-left
invariant-loop-left g l = SentSome (g.W.Write.contents l.initial.server) (g.W.Write.contents l.server) l.fn.lines l.left

abbrev pub decreases-loop-left : goal.decreases-loop-left
decreases-loop-left g l = length l.left
