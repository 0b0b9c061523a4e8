use Rattle.pf_trie.proofs.RowLists.{finds}
use Rattle.pf_trie.proofs.page.Page.found.Goals as goal

pub returns : goal.returns
returns c = λ s top front are in_front.
    finds s 0 top c.args.address c.signs.result c.longest.result (c.signs.ensures s top front are in_front) c.longest.ensures
