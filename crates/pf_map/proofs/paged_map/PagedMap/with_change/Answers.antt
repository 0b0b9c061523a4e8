use Rattle.std.proofs.Common.{[], ◌∷◌, subst, sym}
use Rattle.pf_map.specs.{Maps.IsMap, Weights.IsWeighed}
use Rattle.pf_map.proofs.Maps.{stays_map}
use Rattle.pf_map.proofs.paged_map.PagedMap.with_change.Goals as goal

pub invariant_of-result : goal.invariant_of-result
invariant_of-result g c =
    let stays = stays_map g.met.K.Key.total g.V.Content.kept g.met.V.Content.keeps (c.args.change.now ∷ []) c.self.inside.map c.self.invariant.0 in
    subst (λ m. IsMap g.K.Key.order g.V.Content.kept m × IsWeighed g.W.Weigher.weight m c.reweighed-weight.result) (sym c.in_ok-with_change.ensures)
    (stays, c.reweighed-weight.ensures)
