use Rattle.pf_core.proofs.Switching.{switches_all}
use Rattle.pf_core.proofs.laws.switches_all.Goals as goal

pub returns : goal.returns
returns c = switches_all
