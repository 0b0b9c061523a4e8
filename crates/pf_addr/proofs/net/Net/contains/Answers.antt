use Rattle.std.proofs.Common.{rules, ◌-◌, refl, ap, ◌∙◌}
use Rattle.pf_addr.specs.Address.{width, contains}
use Rattle.pf_addr.proofs.ClearedBits.{begins_where}
use Rattle.pf_addr.proofs.net.Net.contains.Goals as goal

pub returns-in-V4-V4 : goal.returns-in-V4-V4
unfolding contains
returns-in-V4-V4 c =
    begins_where c.self.inside _ c.in-V4-V4.number c.from.result c.self.invariant (ap (λ f. width f - c.self.inside.len) c.in-V4-V4.is-0) (search rules) (search rules)
    ∙ rw (← c.self.view_is, c.in-V4-V4.is-1, c.in-V4-V4.is-0) refl

pub returns-in-V6-V6 : goal.returns-in-V6-V6
unfolding contains
returns-in-V6-V6 c =
    begins_where c.self.inside _ c.in-V6-V6.number c.first_of.result c.self.invariant (ap (λ f. width f - c.self.inside.len) c.in-V6-V6.is-0) c.first_of.ensures.value c.first_of.ensures.front
    ∙ rw (← c.self.view_is, c.in-V6-V6.is-1, c.in-V6-V6.is-0) refl
