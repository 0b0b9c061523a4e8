use Rattle.pf_line.proofs.Writers.{goes_on}
use Rattle.pf_line.proofs.reply.state_line.write_rule_bound.Goals as goal

pub returns : goal.returns
returns g c = goes_on c.write_numbered-so_far.ensures (goes_on c.write_part-so_far.ensures c.write_hex.ensures)
