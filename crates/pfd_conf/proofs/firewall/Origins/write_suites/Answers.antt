use Rattle.pfd_conf.specs.Junit.{suite_text, suites_text}
use Rattle.pfd_conf.proofs.Texts.{stopped, one_written, front_written}
use Rattle.pfd_conf.proofs.firewall.Origins.write_suites.Goals as goal

pub returns-in_err-write_suite : goal.returns-in_err-write_suite
returns-in_err-write_suite g c =
    let old = g.W.Write.contents c.args.out.now in
    let new = g.W.Write.contents c.write_suite.new.out in
    stopped _ c.from_residual.result old new (suites_text c.args.self.now c.args.tried.now) c.from_residual.ensures.1
    (front_written (suite_text c.args.self.now) old (g.W.Write.contents c.loop-file.out) new c.args.tried.now c.loop-file.file-index
    c.file-item.result
    c.loop-file-test.true c.file-item.is c.loop-file.invariant c.in_err-write_suite.ensures)

pub loop-file-preserved : goal.loop-file-preserved
loop-file-preserved g c =
    one_written (suite_text c.args.self.now) (g.W.Write.contents c.args.out.now) (g.W.Write.contents c.loop-file.out)
    (g.W.Write.contents c.write_suite.new.out)
    c.args.tried.now c.loop-file.file-index c.file-item.result c.loop-file-test.true c.file-item.is c.loop-file.invariant
    c.in_ok-write_suite.ensures
