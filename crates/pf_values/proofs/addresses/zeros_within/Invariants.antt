use Rattle.std.proofs.Common.{◌≡◌, true, drop}
use Rattle.pf_values.specs.Addresses.{zeros_within}
use Rattle.pf_values.proofs.addresses.zeros_within.Given as goal

abbrev pub invariant-loop-at : goal.invariant-loop-at
invariant-loop-at l = zeros_within l.begins (drop l.at l.text) ≡ zeros_within true l.text
