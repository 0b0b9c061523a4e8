use Rattle.std.proofs.Common.{sym, ◌∙◌}
use Rattle.pf_form.proofs.BytesRead.{none_left}
use Rattle.pf_form.proofs.bytes.reading.expect.Goals as goal

pub returns-in-empty : goal.returns-in-empty
returns-in-empty c = sym c.loop-byte.invariant ∙ none_left c.args.bytes.now c.loop-byte.byte-index c.loop-byte.from.now c.loop-byte-test.true c.in-empty.len_below
