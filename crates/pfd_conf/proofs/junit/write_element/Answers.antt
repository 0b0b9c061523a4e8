use Rattle.pf_addr.specs.Writing.{Continues-then}
use Rattle.pfd_conf.proofs.junit.write_element.Goals as goal

pub returns : goal.returns
returns g c =
    Continues-then
    (Continues-then
    (Continues-then
    (Continues-then c.write_more-so_far.ensures c.write_escaped-so_far.ensures)
    c.write_more-so_far-2.ensures)
    c.write_escaped-so_far-2.ensures)
    c.write_end.ensures
