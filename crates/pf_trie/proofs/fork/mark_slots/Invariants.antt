use Rattle.std.proofs.Common.{◌/◌, ◌^◌}
use Rattle.pf_trie.proofs.ForkSlots.{MarkedSlots}
use Rattle.pf_trie.proofs.fork.mark_slots.Given as goal

abbrev pub invariant-loop-place : goal.invariant-loop-place
invariant-loop-place g l = MarkedSlots g.T.Level.holds l.prefix l.sign l.at (l.prefix.address / 2 ^ l.at / 16) l.initial.slots.items l.slots.items l.place
