use Rattle.pf_addr.specs.Writing.{Continues-then, Continues-ok, Continues-err}
use Rattle.pfd_files.proofs.devices.write_sum.Goals as goal

pub returns-in-Ok : goal.returns-in-Ok
returns-in-Ok g c = Continues-then c.write_more-begun.ensures (Continues-ok c.write_more-begun.result _ c.write_reply.result (g.W.Write.contents c.write_more-begun.new.out) (g.W.Write.contents c.write_reply.new.out) _ c.in-Ok.is c.write_reply.ensures.text c.write_reply.ensures.retried)

pub returns-in-Err : goal.returns-in-Err
returns-in-Err g c = Continues-then c.write_more-begun.ensures (Continues-err c.write_more-begun.result c.in-Err.error (g.W.Write.contents c.write_more-begun.new.out) _ c.in-Err.is)
