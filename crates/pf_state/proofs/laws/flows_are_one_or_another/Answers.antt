use Rattle.pf_state.proofs.Flows.{flows_alike}
use Rattle.pf_state.proofs.laws.flows_are_one_or_another.Goals as goal

pub returns-clause-alike : goal.returns-clause-alike
returns-clause-alike c = flows_alike
