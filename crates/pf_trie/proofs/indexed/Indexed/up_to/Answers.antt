use Rattle.pf_trie.proofs.indexed.Indexed.up_to.Goals as goal

pub returns : goal.returns
returns c =
    let within = rw c.self.view_is at c.up_to_between.ensures.within in
    let between = rw c.self.view_is at c.bounds-low.ensures.between in
    let place = rw c.self.view_is at c.up_to_between.ensures.place in
    record { within = within; before = λ order. (place (between order)).before order; beyond = λ order. (place (between order)).beyond order }
