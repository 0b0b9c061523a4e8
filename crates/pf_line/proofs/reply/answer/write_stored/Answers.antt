use Rattle.pf_line.proofs.Writers.{goes_on}
use Rattle.pf_line.proofs.reply.answer.write_stored.Goals as goal

pub returns : goal.returns
returns g c = goes_on c.write_numbered-so_far.ensures c.write_outcome.ensures
