use Rattle.std.proofs.Common.{ℕ, List, Vec, Global, length, ap, arith}
use Rattle.pf_journal.specs.Records.{records, contents}
use Rattle.pf_store.proofs.store.replaying.replay_from.Goals as goal

pub follow_all-requires : goal.follow_all-requires
follow_all-requires c = record { small = omega (arith, c.requires.gate, ap (λ (l : List (Vec ℕ Global)). length (records (contents l))) c.deref.ensures.value) }
