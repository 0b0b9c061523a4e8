use Rattle.pf_ticket.proofs.Latest.{given_last_is_valid}
use Rattle.pf_ticket.proofs.laws.valid_is_given_last.Goals as goal

pub returns-clause-only : goal.returns-clause-only
returns-clause-only c = given_last_is_valid
