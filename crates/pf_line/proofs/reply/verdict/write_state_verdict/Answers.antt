use Rattle.pf_line.proofs.Writers.{goes_on}
use Rattle.pf_line.proofs.reply.verdict.write_state_verdict.Goals as goal

pub returns : goal.returns
returns g c = goes_on c.write_part-so_far.ensures c.write_name.ensures
