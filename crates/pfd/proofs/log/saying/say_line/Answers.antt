use Rattle.pf_addr.specs.Writing.{Appends-none}
use Rattle.pfd.proofs.LogLines.{said}
use Rattle.pfd.proofs.log.saying.say_line.Goals as goal

pub returns-in-Ok : goal.returns-in-Ok
returns-in-Ok g c = λ text w.
    said c.args.made c.write_text.result c.in-Ok.field-0 c.args.line.now text (g.F.Write.contents c.args.faults.now) (g.F.Write.contents c.write_text.new.out)
    c.in-Ok.is w c.write_text.ensures.text

pub returns-in-Err : goal.returns-in-Err
returns-in-Err g c = λ text w. (0, Appends-none (g.F.Write.contents c.args.faults.now))
