use Rattle.pf_addr.specs.Writing.{Continues-ok, Continues-err}
use Rattle.pf_addr.proofs.write.write_more.Goals as goal

pub returns-in-Ok : goal.returns-in-Ok
returns-in-Ok g c = Continues-ok c.args.so_far _ c.write_text.result (g.W.Write.contents c.args.out.now) (g.W.Write.contents c.write_text.new.out) c.args.text.now c.in-Ok.is c.write_text.ensures.text c.write_text.ensures.retried

pub returns-in-Err : goal.returns-in-Err
returns-in-Err g c = Continues-err c.args.so_far c.in-Err.e (g.W.Write.contents c.args.out.now) c.args.text.now c.in-Err.is
