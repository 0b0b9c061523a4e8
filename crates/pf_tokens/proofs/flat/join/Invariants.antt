use Rattle.std.proofs.Common.{◌≡◌, ◌++◌, take}
use Rattle.pf_tokens.proofs.flat.join.Given as goal

abbrev pub invariant-loop-placed : goal.invariant-loop-placed
invariant-loop-placed l = l.value ≡ l.initial.value ++ take l.placed-index l.part.text
