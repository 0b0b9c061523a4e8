use Rattle.pf_addr.specs.Writing.{Continues-then}
use Rattle.pfd_conf.proofs.firewall.Origins.write_point.Goals as goal

pub returns : goal.returns
returns g c =
    Continues-then
    (Continues-then
    (Continues-then
    (Continues-then
    (Continues-then
    (Continues-then
    (Continues-then (rw c.result_word.ensures at c.write_more-so_far.ensures) c.write_more_number-so_far.ensures)
    c.write_more-so_far-2.ensures)
    c.write_more_number-so_far-2.ensures)
    c.write_more-so_far-3.ensures)
    c.write_spaced-so_far.ensures)
    c.write_more-so_far-4.ensures)
    c.write_reason.ensures
