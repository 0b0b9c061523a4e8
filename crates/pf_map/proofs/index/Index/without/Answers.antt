use Rattle.std.specs.FinMap.{find}
use Rattle.pf_map.proofs.Indexes.{held, taken}
use Rattle.pf_map.proofs.index.Index.without.Goals as goal

pub invariant_of-result : goal.invariant_of-result
invariant_of-result g c =
    let old = held (λ e. e.now) (g.Q.Sought.key c.args.name.now) c.get.result (find g.N.Key.order (g.Q.Sought.key c.args.name.now) c.self.inside.names) c.get.ensures.entry in
    rw (c.in_ok-names.ensures, c.in_ok-flows.ensures, old) (taken g.met.N.Key.total g.met.N.Key.alike g.met.F.Key.total c.self.inside.names c.self.inside.flows c.self.invariant (g.Q.Sought.key c.args.name.now))
