use Rattle.pf_state.proofs.Inserts.{insert_spelled}
use Rattle.pf_state.proofs.peer.laws.insert_has_its_form.Goals as goal

pub returns-clause-written : goal.returns-clause-written
returns-clause-written c = insert_spelled
