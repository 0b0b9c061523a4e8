use Rattle.pf_core.proofs.LaterTicks.{tick_never_goes_back}
use Rattle.pf_core.proofs.laws.the_tick_never_goes_back.Goals as goal

pub returns : goal.returns
returns c = tick_never_goes_back
