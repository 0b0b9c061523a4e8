use Rattle.std.proofs.Common.{◌≡◌, ◌++◌, ◌≤◌, drop}
use Rattle.pf_values.specs.Interfaces.{Hosts.beginning, Addresses.known_from}
use Rattle.pf_values.proofs.interfaces.addresses.with_addresses.Given as goal

abbrev pub invariant-loop-at : goal.invariant-loop-at
invariant-loop-at l = record {
  deep : l.reading.context.deep ≤ l.at;
  rest : l.known ++ known_from l.interfaces l.reading.more l.reading.context
      (drop l.at l.tokens) ≡ known_from l.interfaces 0 beginning l.tokens;
}
