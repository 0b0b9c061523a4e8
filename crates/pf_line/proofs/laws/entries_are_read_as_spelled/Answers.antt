use Rattle.pf_line.proofs.SpelledEntries.{spelled_is_read}
use Rattle.pf_line.proofs.laws.entries_are_read_as_spelled.Goals as goal

pub returns-clause-spelled : goal.returns-clause-spelled
returns-clause-spelled c = spelled_is_read
