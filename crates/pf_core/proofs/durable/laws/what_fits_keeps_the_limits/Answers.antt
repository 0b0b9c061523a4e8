use Rattle.pf_core.proofs.Within.{keeps_within}
use Rattle.pf_core.proofs.durable.laws.what_fits_keeps_the_limits.Goals as goal

pub returns : goal.returns
returns c = keeps_within
