use Rattle.std.proofs.Common.{◌≡◌, ◌<◌, ◌-◌, [], cond, length, subst, arith}
use Rattle.std.specs.Prelude.{IfOk}
use Rattle.pf_map.specs.{MapParts.{joined, IsPlace}, Pieces.all_of}
use Rattle.pf_map.proofs.MapParts.{sorted_at, replaced_in_its_place}
use Rattle.pf_map.proofs.level.replace_in.Goals as goal

pub replace-requires-clause-sorted : goal.replace-requires-clause-sorted
replace-requires-clause-sorted g c =
    let items = c.args.slots.now.items in
    let place = c.place_in-place.result in
    let is = subst (λ z. IsPlace g.K.Key.order (g.Q.Sought.key c.args.sought.now) z place) c.deref.ensures.value c.place_in-place.ensures in
    let some : 0 < place = is.some c.requires.some in
    let within : place - 1 < length items = omega (arith, some, is.within) in
    sorted_at g.K.Key.order items (place - 1) c.index_mut.result.now within c.index_mut.ensures.value c.requires.sorted

pub returns-clause-value : goal.returns-clause-value
returns-clause-value g c =
    let items = c.args.slots.now.items in
    let place = c.place_in-place.result in
    let is = subst (λ z. IsPlace g.K.Key.order (g.Q.Sought.key c.args.sought.now) z place) c.deref.ensures.value c.place_in-place.ensures in
    let some : 0 < place = is.some c.requires.some in
    let within : place - 1 < length items = omega (arith, some, is.within) in
    subst (λ z. IfOk c.keep.result (λ left. cond left (joined c.keep.new.slots.items) [] ≡ z))
    (replaced_in_its_place g.met.K.Key.total (g.Q.Sought.key c.args.sought.now) items place c.index_mut.result.now c.replace.new.self _
    (λ itself. all_of g.P.Part.entries itself c.in_ok-pieces.pieces) some within c.index_mut.ensures.value is c.requires.sorted c.in_ok-pieces.ensures)
    c.keep.ensures.value
