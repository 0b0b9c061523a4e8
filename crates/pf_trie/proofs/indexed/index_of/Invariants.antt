use Rattle.pf_trie.proofs.Indexes.{IndexedUpTo}
use Rattle.pf_trie.proofs.indexed.index_of.Given as goal

abbrev pub invariant-loop-digit : goal.invariant-loop-digit
invariant-loop-digit l = IndexedUpTo l.shift l.before l.rows l.place l.digit
