use Rattle.pf_core.proofs.Ticked.{never_sets_the_tick_back}
use Rattle.pf_core.proofs.durable.laws.what_fits_never_sets_the_tick_back.Goals as goal

pub returns : goal.returns
returns c = never_sets_the_tick_back
