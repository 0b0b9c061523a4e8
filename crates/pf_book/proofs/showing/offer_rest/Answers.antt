use Rattle.std.proofs.Common.{◌≡◌, ◌-◌, ◌++◌, map, take, ap, sym, ◌∙◌, arith}
use Rattle.std.specs.Arc.{arc_value}
use Rattle.pf_core.specs.Durable.Changes.{after}
use Rattle.pf_view.specs.Past.Pasts.{all_acked}
use Rattle.pf_book.proofs.HistoryGroups.{seam}
use Rattle.pf_book.proofs.showing.offer_rest.Goals as goal

pub offer-requires-clause-chain : goal.offer-requires-clause-chain
offer-requires-clause-chain g c =
    let a = c.args in
    let whole = seam arc_value a.log.now a.offered a.acked (a.acked - a.offered) (omega (arith, c.requires.within.0)) in
    let all : (g.S.Publisher.plain a.shower.now).offered ++ map arc_value c.in-Ok.changes.items ≡ take a.acked (map arc_value a.log.now) = rw (c.requires.offered, c.in-Ok.ensures) whole in
    c.in-Ok-try_clone.ensures ∙ (c.requires.chain ∙ ap (after g.J.Naming.base) (sym all))

pub returns-in-Ok-offer-clause-offered : goal.returns-in-Ok-offer-clause-offered
returns-in-Ok-offer-clause-offered g c =
    let a = c.args in
    let whole = seam arc_value a.log.now a.offered a.acked (a.acked - a.offered) (omega (arith, c.requires.within.0)) in
    let all : (g.S.Publisher.plain a.shower.now).offered ++ map arc_value c.in-Ok.changes.items ≡ take a.acked (map arc_value a.log.now) = rw (c.requires.offered, c.in-Ok.ensures) whole in
    c.in-Ok-offer.ensures.ok ∙ all

pub offer-requires-clause-front : goal.offer-requires-clause-front
offer-requires-clause-front g c =
    let a = c.args in
    let whole = seam arc_value a.log.now a.offered a.acked (a.acked - a.offered) (omega (arith, c.requires.within.0)) in
    let all : (g.S.Publisher.plain a.shower.now).offered ++ map arc_value c.in-Ok.changes.items ≡ take a.acked (map arc_value a.log.now) = rw (c.requires.offered, c.in-Ok.ensures) whole in
    c.requires.front ∙ ap all_acked (sym all)
