use Rattle.std.proofs.Common.{T, length, subst, ap, ◌∙◌}
use Rattle.std.specs.FinMap.{is_sorted}
use Rattle.pf_map.proofs.Maps.{stays_sorted, recounted, is_some-map}
use Rattle.pf_map.proofs.tree_map.TreeMap.with_value.Goals as goal

pub invariant_of-result : goal.invariant_of-result
invariant_of-result g c =
    let key = g.Q.Sought.key c.args.sought.now in
    let sorted = subst (λ es. T (is_sorted g.K.Key.order es)) c.self.view_is c.self.invariant.0 in
    let has = c.is_some.ensures ∙ is_some-map (λ e. (g.E.Holder.pair e.now).1) c.args.new in
    rw (c.in_ok-top.ensures, c.self.view_is) (
      stays_sorted _ g.met.K.Key.total c.args.self key _ sorted,
      recounted g.met.K.Key.total c.args.self key _ c.self.inside.count c.in_ok-count.count c.args.had c.is_some.result
          sorted (c.self.invariant.1 ∙ ap length c.self.view_is) c.requires.had has c.in_ok-count.ensures,
    )
