use Rattle.pf_addr.specs.Writing.{Continues-then}
use Rattle.pfd_conf.proofs.cover.write_count.Goals as goal

pub returns : goal.returns
returns g c =
    Continues-then
    (Continues-then
    (Continues-then (rw c.saturating_sub-covered.ensures at c.write_more_number-so_far.ensures) c.write_more-so_far.ensures)
    c.write_more_number-so_far-2.ensures)
    c.write_more.ensures
