use Rattle.std.proofs.Common.{◌≡◌, ◌++◌}
use Rattle.pf_values.proofs.interfaces.addresses.append.Given as goal

abbrev pub invariant-loop-token : goal.invariant-loop-token
invariant-loop-token l = l.tokens ≡ l.initial.tokens ++ l.yielded
