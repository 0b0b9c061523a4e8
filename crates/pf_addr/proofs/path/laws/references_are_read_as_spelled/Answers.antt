use Rattle.pf_addr.proofs.ReferencesRead.{read_is_spelled, spelled_is_read}
use Rattle.pf_addr.proofs.path.laws.references_are_read_as_spelled.Goals as goal

pub returns-clause-read : goal.returns-clause-read
returns-clause-read c = read_is_spelled

pub returns-clause-spelled : goal.returns-clause-spelled
returns-clause-spelled c = spelled_is_read
