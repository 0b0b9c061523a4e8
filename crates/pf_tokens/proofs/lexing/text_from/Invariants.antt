use Rattle.std.proofs.Common.{◌≡◌, ◌∷◌, take}
use Rattle.pf_tokens.proofs.lexing.text_from.Given as goal

abbrev pub invariant-loop-placed : goal.invariant-loop-placed
invariant-loop-placed l = l.text ≡ l.fn.first ∷ take l.placed-index l.following
