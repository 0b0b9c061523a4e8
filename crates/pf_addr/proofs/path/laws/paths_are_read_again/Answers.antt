use Rattle.pf_addr.proofs.PathsRead.{written_is_read}
use Rattle.pf_addr.proofs.path.laws.paths_are_read_again.Goals as goal

pub returns-clause-written : goal.returns-clause-written
returns-clause-written c = written_is_read
