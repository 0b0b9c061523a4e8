use Rattle.std.proofs.Common.{◌≡◌, ◌+◌, ◌≤◌, T, length, vec_len, vec_capacity}
use Rattle.std.specs.{FinMap.is_sorted, Vec.Iter.into_iter_items}
use Rattle.pf_ticket.specs.{Names.ruleset_order, Tickets.with_all}
use Rattle.pf_ticket.proofs.slots.put_each.Given as goal

abbrev pub invariant-loop-slot : goal.invariant-loop-slot
invariant-loop-slot l = record {
  rest : with_all l.slots.items (into_iter_items l.slot-iterator) ≡ with_all l.fn.slots.items l.fn.new.items;
  order : T (is_sorted ruleset_order l.slots.items);
  room : vec_len l.slots + length (into_iter_items l.slot-iterator) ≤ vec_capacity l.slots;
}
