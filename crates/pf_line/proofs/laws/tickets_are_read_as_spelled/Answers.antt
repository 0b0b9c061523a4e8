use Rattle.pf_line.proofs.SpelledTickets.{spelled_is_read}
use Rattle.pf_line.proofs.laws.tickets_are_read_as_spelled.Goals as goal

pub returns-clause-spelled : goal.returns-clause-spelled
returns-clause-spelled c = spelled_is_read
