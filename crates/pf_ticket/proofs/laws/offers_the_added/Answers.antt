use Rattle.pf_ticket.proofs.Adding.{offers-the-added}
use Rattle.pf_ticket.proofs.laws.offers_the_added.Goals as goal

pub returns : goal.returns
returns c = offers-the-added
