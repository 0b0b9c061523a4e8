use Rattle.std.proofs.Common.{sym}
use Rattle.pf_trie.proofs.Roots.{no_rows}
use Rattle.pf_trie.proofs.rooted.RootedPrefixIndex.empty.Goals as goal

pub returns : goal.returns
returns g c = λ s none. record { all = sym (none 128 0); level = c.empty.ensures s 128 0 (no_rows s 128 0 none) }
