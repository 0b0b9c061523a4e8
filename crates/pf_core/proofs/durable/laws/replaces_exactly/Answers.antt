use Rattle.pf_core.proofs.Edited.{replaces_exactly}
use Rattle.pf_core.proofs.durable.laws.replaces_exactly.Goals as goal

pub returns : goal.returns
returns c = replaces_exactly
