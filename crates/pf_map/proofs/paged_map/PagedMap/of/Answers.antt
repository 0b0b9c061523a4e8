use Rattle.pf_map.proofs.paged_map.PagedMap.of.Goals as goal

pub invariant_of-result : goal.invariant_of-result
invariant_of-result g c = rw c.in_ok-of.ensures (c.requires, c.weight_of_all.ensures)
