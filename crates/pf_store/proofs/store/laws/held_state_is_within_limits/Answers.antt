use Rattle.pf_store.proofs.WithinLimits.{made_within}
use Rattle.pf_store.proofs.store.laws.held_state_is_within_limits.Goals as goal

pub returns : goal.returns
returns c image d held = made_within held.content d held.makes
