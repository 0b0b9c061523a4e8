use Rattle.pf_line.proofs.Writers.{goes_on}
use Rattle.pf_line.proofs.reply.status.write_numbers.Goals as goal

pub returns : goal.returns
returns g c = goes_on c.write_age-so_far.ensures (goes_on c.write_kept-so_far.ensures c.write_room.ensures)
