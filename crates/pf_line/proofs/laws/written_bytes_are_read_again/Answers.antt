use Rattle.pf_line.proofs.SpelledStates.{bytes_again, upper_bytes_again}
use Rattle.pf_line.proofs.laws.written_bytes_are_read_again.Goals as goal

pub returns-clause-lower : goal.returns-clause-lower
returns-clause-lower c = bytes_again

pub returns-clause-upper : goal.returns-clause-upper
returns-clause-upper c = upper_bytes_again
