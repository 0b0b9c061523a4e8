use Rattle.std.proofs.Common.{◌≡◌, length, All}
use Rattle.pf_trie.specs.Forks.{IsEmptySlot}
use Rattle.pf_trie.proofs.fork.empty_slots.Given as goal

abbrev pub invariant-loop : goal.invariant-loop
invariant-loop g l = (length l.slots.items ≡ l.counter) × All (IsEmptySlot g.T.Level.holds) l.slots.items
