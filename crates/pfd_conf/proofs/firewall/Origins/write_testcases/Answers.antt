use Rattle.pfd_conf.specs.Junit.{testcase_text, testcases_text}
use Rattle.pfd_conf.proofs.Texts.{stopped, one_written_at, front_written_at}
use Rattle.pfd_conf.proofs.firewall.Origins.write_testcases.Goals as goal

pub returns-in_err-write_testcase : goal.returns-in_err-write_testcase
returns-in_err-write_testcase g c =
    let old = g.W.Write.contents c.args.out.now in
    let new = g.W.Write.contents c.write_testcase.new.out in
    stopped _ c.from_residual.result old new (testcases_text c.args.self.now c.args.tried.now) c.from_residual.ensures.1
    (rw c.as_slice-outcome-items.ensures at
    (front_written_at (testcase_text c.args.self.now c.args.tried.now) old (g.W.Write.contents c.loop-outcome.out) new
    c.as_slice-outcome-items.result.now c.loop-outcome.outcome-index _
    c.loop-outcome-test.true c.loop-outcome.invariant c.in_err-write_testcase.ensures))

pub loop-outcome-preserved : goal.loop-outcome-preserved
loop-outcome-preserved g c =
    one_written_at (testcase_text c.args.self.now c.args.tried.now) (g.W.Write.contents c.args.out.now) (g.W.Write.contents c.loop-outcome.out)
    (g.W.Write.contents c.write_testcase.new.out)
    c.as_slice-outcome-items.result.now c.loop-outcome.outcome-index _ c.loop-outcome-test.true c.loop-outcome.invariant
    c.in_ok-write_testcase.ensures
