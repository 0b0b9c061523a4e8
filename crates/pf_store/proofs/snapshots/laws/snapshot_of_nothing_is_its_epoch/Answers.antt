use Rattle.pf_store.proofs.Durables.{nothing_is_empty, empty_is_nothing}
use Rattle.pf_store.proofs.snapshots.laws.snapshot_of_nothing_is_its_epoch.Goals as goal

pub returns : goal.returns
returns c version epoch bytes = (λ is. nothing_is_empty version epoch bytes is, λ is. empty_is_nothing version epoch bytes is)
