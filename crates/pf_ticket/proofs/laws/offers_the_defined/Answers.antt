use Rattle.pf_ticket.proofs.Latest.{offers_the_defined}
use Rattle.pf_ticket.proofs.laws.offers_the_defined.Goals as goal

pub returns : goal.returns
returns c = offers_the_defined
