use Rattle.pf_core.proofs.Limits.{commits_name_once}
use Rattle.pf_core.proofs.laws.commits_name_nothing_twice.Goals as goal

pub returns : goal.returns
returns c = commits_name_once
