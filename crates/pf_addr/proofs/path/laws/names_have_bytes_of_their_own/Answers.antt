use Rattle.pf_addr.proofs.PathBytes.{name_again}
use Rattle.pf_addr.proofs.path.laws.names_have_bytes_of_their_own.Goals as goal

pub returns-clause-names : goal.returns-clause-names
returns-clause-names c = name_again
