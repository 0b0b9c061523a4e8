use Rattle.std.proofs.Common.{◌≡◌, take}
use Rattle.pf_trie.proofs.row_list.widened.Given as goal

abbrev pub invariant-loop-row : goal.invariant-loop-row
invariant-loop-row l = l.rows.items ≡ take l.row-index l.narrow
