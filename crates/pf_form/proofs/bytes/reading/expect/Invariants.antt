use Rattle.std.proofs.Common.{◌≡◌, drop}
use Rattle.pf_form.specs.Bytes.BasicForms.{constant_at}
use Rattle.pf_form.proofs.bytes.reading.expect.Given as goal

abbrev pub invariant-loop-byte : goal.invariant-loop-byte
invariant-loop-byte l = constant_at (drop l.byte-index l.bytes) l.from.now ≡ constant_at l.bytes l.fn.from.now
