use Rattle.pf_addr.specs.Writing.{Continues-then}
use Rattle.pfd_conf.proofs.junit.write_end.Goals as goal

pub returns : goal.returns
returns g c = rw c.if-holds.false
    (Continues-then c.write_more-so_far.ensures (Continues-then c.write_escaped-so_far.ensures c.write_more-2.ensures))
