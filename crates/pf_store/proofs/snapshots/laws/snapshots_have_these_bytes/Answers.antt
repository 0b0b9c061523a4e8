use Rattle.std.proofs.Common.{refl}
use Rattle.pf_store.proofs.Durables.{example_is, zeros_are}
use Rattle.pf_store.proofs.snapshots.laws.snapshots_have_these_bytes.Goals as goal

pub returns-clause-nothing : goal.returns-clause-nothing
returns-clause-nothing c = zeros_are

pub returns-clause-bytes : goal.returns-clause-bytes
returns-clause-bytes c = example_is

pub returns-clause-many : goal.returns-clause-many
returns-clause-many c = refl

pub returns-clause-more : goal.returns-clause-more
returns-clause-more c = refl
