use Rattle.std.proofs.Common.{arith}
use Rattle.pf_form.proofs.BytesRead.{bytes_at, bytes_short}
use Rattle.pf_form.proofs.bytes.reading.read_array.Goals as goal

pub returns-then-from : goal.returns-then-from
returns-then-from g c = bytes_short g.row.N c.args.from.now.now (omega arith)

pub returns : goal.returns
returns g c = rw (c.copy_from_slice.ensures.after, c.split_at.ensures.front, c.split_at.ensures.back) (bytes_at g.row.N c.args.from.now.now (omega arith))
