use Rattle.pf_trie.proofs.IndexEdits.{AddedAfter}
use Rattle.pf_trie.proofs.indexed.with_one_more.Given as goal

abbrev pub invariant-loop-higher : goal.invariant-loop-higher
invariant-loop-higher l = AddedAfter l.initial.before l.before l.digit l.higher
