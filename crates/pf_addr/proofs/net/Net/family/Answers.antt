use Rattle.std.proofs.Common.{◌^◌, ◌<◌, subst}
use Rattle.pf_addr.specs.{Address.{PlainNet, width}, Laws.Bits.front_below}
use Rattle.pf_addr.proofs.net.Net.family.Goals as goal

pub returns-clause-front : goal.returns-clause-front
returns-clause-front c =
    let kept = c.self.inside in
    subst (λ (n : PlainNet). n.front < 2 ^ n.len) c.self.view_is (front_below (width kept.family) kept.len kept.number c.self.invariant.len c.self.invariant.number)
