use Rattle.std.proofs.Common.{◌≡◌, ◌+◌, ◌≤◌, length, take}
use Rattle.pf_ticket.specs.Mentions.{after, gives}
use Rattle.pf_ticket.proofs.tickets.Tickets.opened_with.Given as goal

abbrev pub invariant-loop-place : goal.invariant-loop-place
invariant-loop-place l = record {
  counts : l.count ≡ length (after l.self (gives (take l.place l.names))).offers;
  within : l.count ≤ length l.self.offers + l.place;
}
