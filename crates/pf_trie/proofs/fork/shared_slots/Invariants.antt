use Rattle.std.proofs.Common.{take}
use Rattle.pf_trie.specs.Forks.{SameFork}
use Rattle.pf_trie.proofs.fork.shared_slots.Given as goal

abbrev pub invariant-loop-slot : goal.invariant-loop-slot
invariant-loop-slot g l = SameFork g.T.Level.holds (take l.slot-index l.slots) l.shared.items
