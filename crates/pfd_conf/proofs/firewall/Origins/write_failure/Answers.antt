use Rattle.pf_addr.specs.Writing.{Continues-then}
use Rattle.pfd_conf.proofs.firewall.Origins.write_failure.Goals as goal

pub returns : goal.returns
returns g c =
    Continues-then
    (Continues-then
    (Continues-then
    (Continues-then
    (Continues-then
    (Continues-then
    (Continues-then c.write_more-so_far.ensures c.write_more-so_far-2.ensures)
    c.write_more_number-so_far.ensures)
    c.write_more-so_far-3.ensures)
    (rw c.packet_of.ensures at c.write_spaced-so_far.ensures))
    c.write_more-so_far-4.ensures)
    c.write_difference-so_far.ensures)
    c.write_more.ensures
