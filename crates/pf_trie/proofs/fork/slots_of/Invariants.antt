use Rattle.std.proofs.Common.{◌/◌, ◌^◌}
use Rattle.pf_trie.proofs.ForkSlots.{MadeSlots}
use Rattle.pf_trie.proofs.fork.slots_of.Given as goal

abbrev pub invariant-loop-place : goal.invariant-loop-place
invariant-loop-place g l = MadeSlots g.T.Level.holds l.at (l.address / 2 ^ l.at / 16) l.rows l.slots.items l.place
