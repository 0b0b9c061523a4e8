use Rattle.std.proofs.Common.{◌≡◌, ◌++◌, map, take}
use Rattle.pf_tokens.specs.Flat.{used}
use Rattle.pf_tokens.proofs.flat.replace.Given as goal

abbrev pub invariant-loop-part : goal.invariant-loop-part
invariant-loop-part l = l.out ≡ l.initial.out ++ map (used l.place l.modifier) (take l.part-index l.part-items)
