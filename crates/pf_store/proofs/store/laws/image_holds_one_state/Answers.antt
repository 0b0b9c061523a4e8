use Rattle.pf_store.proofs.Refusing.{one_held}
use Rattle.pf_store.proofs.store.laws.image_holds_one_state.Goals as goal

pub returns : goal.returns
returns c image d e a b = one_held image d e a b
