use Rattle.pf_core.proofs.Limits.{gives_each_once}
use Rattle.pf_core.proofs.laws.gives_each_ticket_once.Goals as goal

pub returns : goal.returns
returns c = gives_each_once
