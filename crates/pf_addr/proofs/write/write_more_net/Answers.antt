use Rattle.pf_addr.specs.Writing.{Continues-then}
use Rattle.pf_addr.proofs.write.write_more_net.Goals as goal

pub returns : goal.returns
returns g c = Continues-then (rw c.addr.ensures.value at c.write_more_addr-so_far.ensures) c.write_more_len.ensures
