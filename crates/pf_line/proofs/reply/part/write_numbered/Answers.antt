use Rattle.pf_line.proofs.Writers.{goes_on}
use Rattle.pf_line.proofs.reply.part.write_numbered.Goals as goal

pub returns : goal.returns
returns g c = goes_on c.write_part-so_far.ensures c.write_number.ensures
