use Rattle.pf_line.proofs.Writers.{goes_on}
use Rattle.pf_line.proofs.reply.shown.write_table.Goals as goal

pub returns : goal.returns
returns g c = goes_on (rw c.key.ensures at c.write_name-so_far.ensures) (rw c.value.ensures at c.write_entries.ensures)
