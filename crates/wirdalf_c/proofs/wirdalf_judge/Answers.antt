use Rattle.wirdalf_c.proofs.Configurations.{handed_back}
use Rattle.wirdalf_c.proofs.wirdalf_judge.Goals as goal

pub returns-clause-same : goal.returns-clause-same
returns-clause-same c = rw c.judge.ensures.same (handed_back c.args.config.now c.lend.result.now c.lend.ensures.value)
