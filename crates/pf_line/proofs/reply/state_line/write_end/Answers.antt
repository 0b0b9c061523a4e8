use Rattle.pf_line.proofs.Writers.{goes_on}
use Rattle.pf_line.proofs.reply.state_line.write_end.Goals as goal

pub returns : goal.returns
returns g c = goes_on c.write_part-so_far.ensures (goes_on c.write_address-so_far.ensures c.write_numbered.ensures)
