use Rattle.std.proofs.lemmas.Result.{on_ok_weaker}
use Rattle.pf_disk.proofs.Writing.{weakened}
use Rattle.pf_store.proofs.Saving.{as_added}
use Rattle.pf_store.proofs.store.adding.add.Goals as goal

pub returns-clause-writes : goal.returns-clause-writes
returns-clause-writes g c = weakened c.add_to.ensures.writes (as_added (λ xs is. is _))

pub returns-clause-kept : goal.returns-clause-kept
returns-clause-kept g c = on_ok_weaker c.add_to.result (λ keeps x is follows. keeps x (is _) follows) c.add_to.ensures.kept
