use Rattle.pf_line.proofs.Writers.{goes_on}
use Rattle.pf_line.proofs.reply.state_line.write_counts.Goals as goal

pub returns : goal.returns
returns g c = goes_on c.write_numbered-so_far.ensures (goes_on c.write_numbered-so_far-2.ensures (goes_on c.write_numbered-so_far-3.ensures (goes_on c.write_numbered-so_far-4.ensures c.write_numbered.ensures)))
