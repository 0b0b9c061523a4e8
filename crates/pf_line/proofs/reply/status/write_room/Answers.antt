use Rattle.pf_line.proofs.Writers.{goes_on}
use Rattle.pf_line.proofs.reply.status.write_room.Goals as goal

pub returns : goal.returns
returns g c = goes_on c.write_numbered-so_far.ensures (goes_on c.write_numbered-so_far-2.ensures c.write_numbered.ensures)
