use Rattle.std.proofs.Common.{◌∙◌}
use Rattle.std.specs.FinMap.{find}
use Rattle.pf_map.proofs.Maps.{is_there}
use Rattle.pf_map.proofs.tree_map.TreeMap.has.Goals as goal

pub returns : goal.returns
returns g c =
    let key = g.Q.Sought.key c.args.sought.now in
    c.is_some.ensures ∙ is_there (λ e. g.E.Holder.pair e.now) key c.get.result (find g.K.Key.order key c.args.self.now) c.get.ensures.entry
