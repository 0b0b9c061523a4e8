use Rattle.std.proofs.Common.{arith}
use Rattle.pf_line.proofs.Newlines.{number_plain}
use Rattle.pf_line.proofs.reply.part.write_number.Goals as goal

pub returns : goal.returns
returns g c = record { written = c.write_more_number.ensures; one_line = number_plain c.args.number (omega (arith, c.ranges.number.fits)) }
