use Rattle.pf_core.specs.Laws.Wanted.{wants_what_fits}
use Rattle.pf_core.proofs.laws.wants_what_fits.Goals as goal

pub returns : goal.returns
returns c = wants_what_fits
