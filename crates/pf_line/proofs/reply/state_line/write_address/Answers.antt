use Rattle.pf_line.proofs.StateTexts.{single_text}
use Rattle.pf_line.proofs.reply.state_line.write_address.Goals as goal

pub returns : goal.returns
returns g c = rw (c.single.ensures, single_text c.args.address) at c.write_network.ensures
