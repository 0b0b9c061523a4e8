use Rattle.std.proofs.Common.{◌≡◌}
use Rattle.pf_addr.specs.Path.FirstBytes.{front_number}
use Rattle.pf_addr.proofs.path.keys.front_number.Given as goal

abbrev pub invariant-loop-index : goal.invariant-loop-index
invariant-loop-index l = l.number ≡ front_number l.index l.bytes
