use Rattle.pfd_conf.proofs.Tallies.{all_counted}
use Rattle.pfd_conf.proofs.laws.every_case_is_counted_once.Goals as goal

pub returns : goal.returns
returns c = all_counted
