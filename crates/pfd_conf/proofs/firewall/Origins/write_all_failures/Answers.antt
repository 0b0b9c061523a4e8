use Rattle.pfd_conf.specs.Reports.{failures_text, all_failures}
use Rattle.pfd_conf.proofs.Texts.{stopped, front_written}
use Rattle.pfd_conf.proofs.firewall.Origins.write_all_failures.Goals as goal

pub returns-in_err-write_failures : goal.returns-in_err-write_failures
returns-in_err-write_failures g c =
    let old = g.W.Write.contents c.args.out.now in
    let new = g.W.Write.contents c.write_failures.new.out in
    stopped _ c.from_residual.result old new (all_failures c.args.self.now c.args.tried.now) c.from_residual.ensures.1
    (front_written (failures_text c.args.self.now) old (g.W.Write.contents c.loop-file.out) new c.args.tried.now c.loop-file.file-index
    c.file-item.result
    c.loop-file-test.true c.file-item.is c.loop-file.invariant c.in_err-write_failures.ensures)
