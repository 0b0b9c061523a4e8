use Rattle.std.proofs.Common.{◌≡◌, ◌∷◌, ap, ◌∙◌, sym, subst, arith, length}
use Rattle.std.specs.Vec.Iter.{into_iter_items}
use Rattle.std.proofs.Common.{Some}
use Rattle.pf_ticket.specs.Tickets.{PlainSlots, with_all}
use Rattle.pf_ticket.proofs.Offers.{AreInOrder, stays_sorted}
use Rattle.pf_ticket.proofs.slots.put_each.Goals as goal

pub loop-slot-preserved : goal.loop-slot-preserved
loop-slot-preserved c =
    let left : PlainSlots = into_iter_items c.next.new.self in
    let step : into_iter_items c.loop-slot.slot-iterator ≡ c.in-Some.slot ∷ left = c.in-Some.ensures.steps.0 in
    let fewer = ap length step in
    let room = c.loop-slot.invariant.room in
    let one = c.put.ensures.len in
    let same = c.put.ensures.capacity in
    record {
      rest = ap (λ (os : PlainSlots). with_all os left) c.put.ensures.items ∙ sym (ap (with_all c.loop-slot.slots.items) step) ∙ c.loop-slot.invariant.rest;
      order = subst AreInOrder (sym c.put.ensures.items) (stays_sorted c.loop-slot.slots.items c.in-Some.slot.0 (Some c.in-Some.slot.1) c.loop-slot.invariant.order);
      room = omega (arith, fewer, room, one, same);
    }
