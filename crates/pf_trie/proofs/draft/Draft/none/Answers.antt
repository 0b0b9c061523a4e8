use Rattle.std.proofs.Common.{sym, subst}
use Rattle.pf_trie.specs.Rows.{AreRows}
use Rattle.pf_trie.proofs.Roots.{no_rows}
use Rattle.pf_trie.proofs.draft.Draft.none.Goals as goal

pub returns : goal.returns
returns c = λ s none. record { all = sym (none 128 0); level = subst (AreRows s 128 0) (sym c.none.ensures) (no_rows s 128 0 none) }
