use Rattle.std.proofs.Common.{◌≡◌, take, drop}
use Rattle.pf_ticket.specs.{Names.names_of, Replies.{twice_in, twice_after}}
use Rattle.pf_ticket.proofs.tickets.first_twice.Given as goal

-- no entry so far names a ruleset named before it
abbrev pub invariant-loop-place : goal.invariant-loop-place
invariant-loop-place l = twice_in l.entries ≡ twice_after (take l.place (names_of l.entries)) (drop l.place (names_of l.entries))
