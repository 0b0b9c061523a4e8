use Rattle.std.proofs.Common.{◌≡◌, ◌+◌, ◌++◌, drop}
use Rattle.pf_ticket.specs.Tickets.{given_from}
use Rattle.pf_ticket.proofs.tickets.Tickets.new_slots.Given as goal

abbrev pub invariant-loop-name : goal.invariant-loop-name
invariant-loop-name l = record {
  made : l.slots.items ++ given_from l.self.epoch l.next (drop l.name-index l.names) ≡ given_from l.self.epoch l.self.next l.names;
  next : l.next ≡ l.self.next + l.name-index;
}
