use Rattle.std.proofs.Common.{◌≡◌, ◌++◌, map, take}
use Rattle.pf_tokens.specs.declared.place.Placed.{Placed}
use Rattle.pf_tokens.specs.Places.{at}
use Rattle.pf_tokens.proofs.flat.push_moved.Given as goal

abbrev pub invariant-loop-placed : goal.invariant-loop-placed
invariant-loop-placed l = l.text ≡ l.initial.text ++ map (λ (c : Placed). at c.byte l.place) (take l.placed-index l.bytes)
