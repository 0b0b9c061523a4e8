use Rattle.std.proofs.Common.{◌≡◌, ◌≤◌, drop}
use Rattle.pf_values.specs.Addresses.{rest_after_last}
use Rattle.pf_values.proofs.addresses.end_of_last.Given as goal

abbrev pub invariant-loop-at : goal.invariant-loop-at
invariant-loop-at l = record {
  within : l.end ≤ l.at;
  rest : rest_after_last l.byte (drop l.end l.text) (drop l.at l.text) ≡ rest_after_last l.byte l.text l.text;
}
