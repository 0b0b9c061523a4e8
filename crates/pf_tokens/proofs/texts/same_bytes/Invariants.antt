use Rattle.std.proofs.Common.{◌≡◌, drop}
use Rattle.std.specs.Str.{bytes_eq}
use Rattle.pf_tokens.specs.Places.{text_of}
use Rattle.pf_tokens.proofs.texts.same_bytes.Given as goal

abbrev pub invariant-loop-at : goal.invariant-loop-at
invariant-loop-at l = bytes_eq (text_of l.text) l.bytes ≡ bytes_eq (text_of (drop l.at l.text)) (drop l.at l.bytes)
