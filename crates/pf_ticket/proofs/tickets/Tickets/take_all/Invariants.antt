use Rattle.std.proofs.Common.{◌≡◌, drop}
use Rattle.pf_ticket.specs.Mentions.{after, switches}
use Rattle.pf_ticket.proofs.tickets.Tickets.take_all.Given as goal

abbrev pub invariant-loop-name : goal.invariant-loop-name
invariant-loop-name l = after l.self (switches (drop l.name-index l.names)) ≡ after l.fn.self (switches l.names)
