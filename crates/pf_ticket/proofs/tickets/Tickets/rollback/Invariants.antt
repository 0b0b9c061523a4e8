use Rattle.std.proofs.Common.{◌≡◌, drop}
use Rattle.pf_ticket.specs.Mentions.{after, drops}
use Rattle.pf_ticket.proofs.tickets.Tickets.rollback.Given as goal

abbrev pub invariant-loop-entry : goal.invariant-loop-entry
invariant-loop-entry l = after l.self (drops (drop l.entry-index l.entries)) ≡ after l.fn.self (drops l.entries)
