use Rattle.std.proofs.Common.{arith}
use Rattle.pf_conf.proofs.CommitSteps.{more_after}
use Rattle.pf_load.proofs.changes.common_back.Goals as goal

pub loop-count-preserved : goal.loop-count-preserved
loop-count-preserved c =
    more_after c.args.old.now c.args.new.now c.loop-count.count c.index-old-old.result c.index-new-new.result (omega arith) (omega arith) c.index-old-old.is c.index-new-new.is (c.is_same.ensures.0 c.if-not-is_same.false) c.loop-count.invariant
