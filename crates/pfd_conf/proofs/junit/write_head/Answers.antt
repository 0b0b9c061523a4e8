use Rattle.pf_addr.specs.Writing.{Continues-then}
use Rattle.pfd_conf.proofs.junit.write_head.Goals as goal

pub returns : goal.returns
returns g c = Continues-then (Continues-then c.write_more-so_far.ensures c.write_counts-so_far.ensures) c.write_more.ensures
