use Rattle.pf_line.proofs.Writers.{goes_on}
use Rattle.pf_line.proofs.reply.shown.write_rule.Goals as goal

pub returns : goal.returns
returns g c = goes_on c.write_numbered-so_far.ensures (goes_on c.write_part-so_far.ensures c.write_rule_text.ensures)
