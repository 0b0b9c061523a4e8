use Rattle.pf_line.proofs.Writers.{goes_on}
use Rattle.pf_line.proofs.reply.verdict.write_deciding.Goals as goal

pub returns : goal.returns
returns g c = goes_on (rw c.action_word.ensures.text at c.write_part-so_far.ensures) (goes_on c.write_numbered-so_far.ensures c.write_place.ensures)
