use Rattle.std.proofs.Common.{arith}
use Rattle.pf_form.proofs.BytesRead.{bytes_at, bytes_short}
use Rattle.pf_rule.proofs.sum.layout.read_front.Goals as goal

pub returns-then-from-count-clause-read : goal.returns-then-from-count-clause-read
returns-then-from-count-clause-read c = bytes_short c.args.count c.args.from.now.now (omega arith)

pub returns-clause-read : goal.returns-clause-read
returns-clause-read c = rw (c.split_at.ensures.front, c.split_at.ensures.back) (bytes_at c.args.count c.args.from.now.now (omega arith))
