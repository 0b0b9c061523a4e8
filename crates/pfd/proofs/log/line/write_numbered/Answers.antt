use Rattle.pf_addr.specs.Writing.{Continues-then}
use Rattle.pfd.proofs.log.line.write_numbered.Goals as goal

pub returns : goal.returns
returns g c =
    Continues-then c.write_session-so_far.ensures (Continues-then c.write_more-so_far.ensures
    (Continues-then c.write_more_number-so_far.ensures (Continues-then c.write_deed_part-so_far.ensures c.write_more.ensures)))
