use Rattle.pf_addr.specs.Writing.{Continues-then}
use Rattle.pf_addr.proofs.write.write_v4.Goals as goal

pub returns : goal.returns
returns g c =
    Continues-then (rw (c.from.ensures, c.to_be_bytes.ensures) at c.write_more_number-first.ensures)
    (Continues-then c.write_more-dot.ensures
    (Continues-then (rw (c.from-2.ensures, c.to_be_bytes.ensures) at c.write_more_number-second.ensures)
    (Continues-then c.write_more-dot-2.ensures
    (Continues-then (rw (c.from-3.ensures, c.to_be_bytes.ensures) at c.write_more_number-third.ensures)
    (Continues-then c.write_more-dot-3.ensures (rw (c.from-4.ensures, c.to_be_bytes.ensures) at c.write_more_number.ensures))))))
