use Rattle.pf_line.proofs.Writers.{goes_on}
use Rattle.pf_line.proofs.reply.state_line.write_flow.Goals as goal

pub returns : goal.returns
returns g c = goes_on (rw (c.way.ensures.text, c.direction.ensures.direction) at c.write_part-so_far.ensures) (goes_on (rw c.protocol.ensures at c.write_protocol-so_far.ensures) (goes_on (rw (c.source.ensures, c.source_port.ensures) at c.write_end-so_far.ensures) (rw (c.destination.ensures, c.destination_port.ensures) at c.write_end.ensures)))
