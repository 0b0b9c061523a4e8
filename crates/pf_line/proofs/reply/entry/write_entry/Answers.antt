use Rattle.pf_line.proofs.Writers.{goes_on}
use Rattle.pf_line.proofs.reply.entry.write_entry.Goals as goal

pub returns : goal.returns
returns g c = goes_on (rw (c.sign.ensures.text, c.is_negated.ensures) at c.write_part-so_far.ensures) (rw c.net.ensures.value at c.write_network.ensures)
