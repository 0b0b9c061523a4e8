use Rattle.std.proofs.Common.{arith}
use Rattle.pf_conf.proofs.CommitSteps.{more_in_front}
use Rattle.pf_load.proofs.changes.common_front.Goals as goal

pub loop-at-preserved : goal.loop-at-preserved
loop-at-preserved c =
    more_in_front c.args.old.now c.args.new.now c.loop-at.at c.index-old-at.result c.index-new-at.result (omega arith) (omega arith) c.index-old-at.is c.index-new-at.is (c.is_same.ensures.0 c.if-not-is_same.false) c.loop-at.invariant
