use Rattle.std.proofs.Common.{◌≡◌, drop}
use Rattle.pf_addr.specs.Reading.{gap, later}
use Rattle.pf_addr.proofs.ipv6_text.place_of_gap.Given as goal

abbrev pub invariant-loop-i : goal.invariant-loop-i
invariant-loop-i l = gap l.text ≡ later l.i (gap (drop l.i l.text))
