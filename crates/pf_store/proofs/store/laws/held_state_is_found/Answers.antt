use Rattle.pf_store.proofs.Refusing.{held_is_found}
use Rattle.pf_store.proofs.store.laws.held_state_is_found.Goals as goal

pub returns : goal.returns
returns c image fault d held early unopened says = held_is_found image fault d held early unopened says
