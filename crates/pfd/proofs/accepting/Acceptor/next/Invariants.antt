use Rattle.std.proofs.Common.{◌≡◌, true}
use Rattle.pfd.specs.Accepting.{accepts_more}
use Rattle.pfd.proofs.accepting.Acceptor.next.Given as goal

-- so far each client gave up
abbrev pub invariant-loop : goal.invariant-loop
invariant-loop g l = (l.self ≡ l.initial.self) × (accepts_more l.self ≡ true)
