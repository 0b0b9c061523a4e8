use Rattle.pf_conf.proofs.Fitting.{fits_commit}
use Rattle.pf_conf.proofs.laws.a_commit_can_have_it.Goals as goal

pub returns : goal.returns
returns c = fits_commit
