use Rattle.std.proofs.Common.{◌≡◌, take}
use Rattle.pf_tokens.specs.Places.{text_of}
use Rattle.pf_tokens.proofs.texts.bytes_of.Given as goal

abbrev pub invariant-loop-placed : goal.invariant-loop-placed
invariant-loop-placed l = l.bytes ≡ text_of (take l.placed-index l.text)
