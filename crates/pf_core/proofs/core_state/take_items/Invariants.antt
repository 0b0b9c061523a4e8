use Rattle.std.proofs.Common.{◌≡◌, take}
use Rattle.pf_ticket.specs.{Mentions.{switches, after}, Tickets.content}
use Rattle.pf_core.specs.Commands.{items}
use Rattle.pf_core.proofs.core_state.take_items.Given as goal

abbrev pub invariant-loop-entry : goal.invariant-loop-entry
invariant-loop-entry l = l.taken.items ≡ items (content (after l.tickets (switches l.before))) (take l.entry-index l.entries)
