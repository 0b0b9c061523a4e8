use Rattle.pf_line.proofs.Writers.{goes_on}
use Rattle.pf_line.proofs.reply.state_line.write_state.Goals as goal

pub returns : goal.returns
returns g c =
    goes_on (rw c.key.ensures at c.write_name-so_far.ensures)
    (goes_on (rw c.value-held.ensures at c.write_numbered-so_far.ensures)
    (goes_on (rw c.value-held.ensures at c.write_flow-so_far.ensures)
    (goes_on (rw c.value-held.ensures at c.write_bound-so_far.ensures) (rw c.value-held.ensures at c.write_expiry.ensures))))
