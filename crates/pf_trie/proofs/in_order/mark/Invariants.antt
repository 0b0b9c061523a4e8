use Rattle.pf_trie.proofs.Marks.{MarkedTo}
use Rattle.pf_trie.proofs.in_order.mark.Given as goal

abbrev pub invariant-loop-place : goal.invariant-loop-place
invariant-loop-place l = MarkedTo l.prefix l.sign l.initial.rows l.rows l.from l.place
