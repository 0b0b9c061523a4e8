use Rattle.std.proofs.{Common.{arith}, lemmas.Result.err_from_is_err_and}
use Rattle.pf_session.proofs.Running.{faulting-begun, one-faulted, fault-cut, all-faulted}
use Rattle.pf_session.proofs.server.session.Session.tell_fault.Goals as goal

pub loop-init : goal.loop-init
loop-init g c = λ lines meant gates group. faulting-begun g.G.Gate.passed g.J.Naming.base g.J.Chapter.setting lines c.args.commands.now c.args.self.now (g.O.Write.contents c.args.writer.now) meant gates

pub loop-preserved : goal.loop-preserved
loop-preserved g c = λ lines meant gates group.
    one-faulted g.G.Gate.passed g.J.Naming.base g.J.Chapter.setting group (c.loop.invariant lines meant gates group) c.loop-test.true c.saturating_add-self.result c.saturating_add-self.ensures (g.O.Write.contents c.refuse.new.writer) c.in_ok-refuse.ensures

pub returns-in_err-refuse : goal.returns-in_err-refuse
returns-in_err-refuse g c = λ lines meant gates group.
    let (e, failed, same) = err_from_is_err_and c.from_residual.result c.from_residual.ensures.1 in
    rw failed (fault-cut g.G.Gate.passed g.J.Naming.base g.J.Chapter.setting group (c.loop.invariant lines meant gates group) c.loop-test.true c.saturating_add-self.result c.saturating_add-self.ensures (g.O.Write.contents c.refuse.new.writer) c.in_err-refuse.ensures)

pub returns : goal.returns
returns g c = λ lines meant gates group. all-faulted g.G.Gate.passed g.J.Naming.base g.J.Chapter.setting (omega arith) (c.loop.invariant lines meant gates group)
