use Rattle.pf_line.proofs.Writers.{goes_on}
use Rattle.pf_line.proofs.reply.answer.write_stale.Goals as goal

pub returns : goal.returns
returns g c = goes_on c.write_rule_verdict-so_far.ensures c.write_part.ensures
