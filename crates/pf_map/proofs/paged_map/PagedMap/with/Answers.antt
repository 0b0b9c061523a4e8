use Rattle.std.proofs.Common.{take, sym, ap, ◌∙◌}
use Rattle.std.specs.Prelude.{fold}
use Rattle.std.proofs.lemmas.List.Sums.{fold_more}
use Rattle.pf_map.specs.Maps.{with_entry}
use Rattle.pf_map.proofs.paged_map.PagedMap.with.Goals as goal

pub loop-change-preserved : goal.loop-change-preserved
loop-change-preserved g c =
    let step = with_entry g.K.Key.order g.V.Content.kept in
    let changes = c.args.changes.now in
    let place = c.loop-change.change-index in
    let change = c.change-item.result in
    c.in_ok-map-2.ensures ∙ ap (λ m. step m change) c.loop-change.invariant ∙ ap (step (fold step c.args.self.now (take place changes))) c.change-item.is
    ∙ sym (fold_more step c.args.self.now changes place change c.loop-change-test.true)
