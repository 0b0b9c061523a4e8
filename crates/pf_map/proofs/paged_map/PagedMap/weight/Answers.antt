use Rattle.std.proofs.Common.{arith}
use Rattle.pf_map.proofs.Weights.{light_sum}
use Rattle.pf_map.proofs.paged_map.PagedMap.weight.Goals as goal

pub returns-clause-light : goal.returns-clause-light
returns-clause-light g c =
    let is = c.self.invariant.1 in
    omega (arith, is.exact, light_sum g.W.Weigher.weight c.self.inside.map is.light, c.len-count.ensures, c.len-count.type_inv)
