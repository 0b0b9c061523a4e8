use Rattle.pf_store.proofs.Leading.{left_by_made}
use Rattle.pf_store.proofs.store.laws.group_of_changes_leaves_what_they_do.Goals as goal

pub returns : goal.returns
returns c d es = left_by_made d es
