use Rattle.std.proofs.Common.{sym, ap, ◌∙◌}
use Rattle.pf_addr.specs.{Nets.filled, Spelling.{addr_in, first_addr}}
use Rattle.pf_addr.proofs.net.Net.addr.Goals as goal

pub returns-in-V4-clause-value : goal.returns-in-V4-clause-value
returns-in-V4-clause-value c = ap (λ f. addr_in f c.self.inside.number) (sym c.in-V4.is) ∙ ap (addr_in c.self.inside.family) (sym (filled c.self.inside c.self.invariant)) ∙ ap first_addr c.self.view_is

pub returns-in-V6-clause-value : goal.returns-in-V6-clause-value
returns-in-V6-clause-value c = ap (λ f. addr_in f c.self.inside.number) (sym c.in-V6.is) ∙ ap (addr_in c.self.inside.family) (sym (filled c.self.inside c.self.invariant)) ∙ ap first_addr c.self.view_is
