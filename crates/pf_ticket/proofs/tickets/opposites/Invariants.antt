use Rattle.std.proofs.Common.{◌≡◌, map, take}
use Rattle.pf_ticket.specs.Replies.{opposite}
use Rattle.pf_ticket.proofs.tickets.opposites.Given as goal

abbrev pub invariant-loop-entry : goal.invariant-loop-entry
invariant-loop-entry l = l.opposites.items ≡ map opposite (take l.entry-index l.entries)
