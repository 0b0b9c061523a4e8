use Rattle.pf_conf.proofs.Leniently.{resolved_leniently}
use Rattle.pf_conf.proofs.laws.lenient_takes_what_strict_takes.Goals as goal

pub returns : goal.returns
returns c = resolved_leniently c.lenient_takes_what_strict_takes.ensures
