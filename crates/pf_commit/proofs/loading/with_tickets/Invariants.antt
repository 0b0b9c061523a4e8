use Rattle.std.proofs.Common.{◌≡◌, map, take}
use Rattle.pf_commit.specs.Loading.{name_of}
use Rattle.pf_commit.proofs.loading.with_tickets.Given as goal

abbrev pub invariant-loop-at : goal.invariant-loop-at
invariant-loop-at l = map name_of l.begun.items ≡ take l.at l.names
