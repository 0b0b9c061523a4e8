use Rattle.std.proofs.Common.{◌<◌, ◌-◌, ap, ◌∙◌, length, arith}
use Rattle.pf_map.specs.Maps.{entry_at}
use Rattle.pf_map.proofs.MapParts.{read_at, sorted_at}
use Rattle.pf_map.proofs.level.find_in.Goals as goal

pub find-requires-clause-sorted : goal.find-requires-clause-sorted
find-requires-clause-sorted g c =
    let within : c.place_in-place.result - 1 < length c.args.slots.now = omega (arith, c.place_in-place.ensures.within) in
    rw c.part.ensures (sorted_at g.K.Key.order c.args.slots.now (c.place_in-place.result - 1) c.index-slots-place.result within c.index-slots-place.is c.requires.sorted)

pub returns : goal.returns
returns g c =
    let some : 0 < c.place_in-place.result = omega arith in
    let within : c.place_in-place.result - 1 < length c.args.slots.now = omega (arith, c.place_in-place.ensures.within) in
    c.find.ensures ∙ ap (entry_at g.K.Key.order (g.Q.Sought.key c.args.sought.now)) c.part.ensures
    ∙ read_at g.met.K.Key.total (g.Q.Sought.key c.args.sought.now) c.args.slots.now c.place_in-place.result c.index-slots-place.result some within c.index-slots-place.is c.place_in-place.ensures c.requires.sorted
