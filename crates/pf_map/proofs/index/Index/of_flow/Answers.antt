use Rattle.std.proofs.Common.{sym, ap, ◌∙◌}
use Rattle.std.specs.FinMap.{find}
use Rattle.pf_map.specs.Indexes.{of_flow}
use Rattle.pf_map.proofs.Indexes.{held, flow_is_found}
use Rattle.pf_map.proofs.index.Index.of_flow.Goals as goal

pub returns : goal.returns
returns g c =
    let sought = g.Q.Sought.key c.args.flow.now in
    held (λ e. (g.V.Flowed.flow e.now.1, e.now)) sought c.get.result (find g.F.Key.order sought c.self.inside.flows) c.get.ensures
    ∙ sym (flow_is_found g.met.N.Key.total g.met.N.Key.alike g.met.F.Key.total c.self.inside.names c.self.inside.flows sought c.self.invariant)
    ∙ ap (of_flow g.F.Key.order g.V.Flowed.flow sought) c.self.view_is
