use Rattle.std.proofs.Common.{◌≡◌, take, drop, []}
use Rattle.pf_ticket.specs.Replies.{twice_after}
use Rattle.pf_ticket.proofs.tickets.named_twice.Given as goal

-- none so far is named before it
abbrev pub invariant-loop-place : goal.invariant-loop-place
invariant-loop-place l = twice_after [] l.names ≡ twice_after (take l.place l.names) (drop l.place l.names)
