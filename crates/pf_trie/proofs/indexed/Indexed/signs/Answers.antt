use Rattle.pf_trie.proofs.indexed.Indexed.signs.Goals as goal

pub returns : goal.returns
returns c = λ s top front are in_front.
    let found = rw c.self.view_is at c.signs_by.ensures in
    found s top front c.up_to.ensures are in_front
