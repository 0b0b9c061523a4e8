use Rattle.std.proofs.Common.{ap, ◌∙◌}
use Rattle.pf_map.proofs.Hinted.{hints_decide}
use Rattle.pf_map.proofs.by_flow.HintedFlow.order.Goals as goal

pub returns-else-self-other : goal.returns-else-self-other
returns-else-self-other g c =
    let keyed : g.row.N.Denot × g.row.V.Denot → g.row.F.Denot = λ e. g.V.Flowed.flow e.1 in
    c.cmp.ensures
    ∙ hints_decide g.met.F.Key.total g.F.Key.hint g.met.F.Key.rises (keyed c.args.self.now) (keyed c.args.other.now)
    c.self.inside.hint c.other.inside.hint (c.self.invariant ∙ ap (λ e. g.F.Key.hint (keyed e)) c.self.view_is)
    (c.other.invariant ∙ ap (λ e. g.F.Key.hint (keyed e)) c.other.view_is) c.if-self-other.false
