use Rattle.pf_addr.specs.Writing.{Continues-then}
use Rattle.pf_conf.proofs.commit.lines.write_parts.Goals as goal

pub returns : goal.returns
returns g c = Continues-then (rw c.cut.ensures.part at c.write_define-so_far.ensures) (rw c.cut.ensures.rest at c.write_extends.ensures)
