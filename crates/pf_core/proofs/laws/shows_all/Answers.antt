use Rattle.pf_core.proofs.Showing.{shows_all}
use Rattle.pf_core.proofs.laws.shows_all.Goals as goal

pub returns : goal.returns
returns c = shows_all
