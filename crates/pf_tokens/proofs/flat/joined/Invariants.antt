use Rattle.std.proofs.Common.{◌≡◌, drop, take}
use Rattle.pf_tokens.specs.Flat.{parts_checked, value_text}
use Rattle.pf_tokens.proofs.flat.joined.Given as goal

abbrev pub invariant-loop-part : goal.invariant-loop-part
invariant-loop-part l = record {
  checked : parts_checked l.parts ≡ parts_checked (drop l.part-index l.parts);
  text : l.value ≡ value_text (take l.part-index l.parts);
}
