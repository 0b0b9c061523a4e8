use Rattle.pf_core.proofs.Switching.{keeps_none_valid}
use Rattle.pf_core.proofs.laws.keeps_none_valid.Goals as goal

pub returns : goal.returns
returns c = keeps_none_valid
