use Rattle.pf_core.proofs.Limits.{keeps_the_limits}
use Rattle.pf_core.proofs.laws.keeps_the_limits.Goals as goal

pub returns : goal.returns
returns c = keeps_the_limits
