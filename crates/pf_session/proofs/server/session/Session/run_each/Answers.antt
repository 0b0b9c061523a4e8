use Rattle.std.proofs.{Common.{◌≡◌, List, [], subst, arith}, lemmas.Result.err_from_is_err_and, lemmas.List.nil_from_length}
use Rattle.std.specs.Vec.Iter.{into_iter_items}
use Rattle.pf_core.specs.declared.command.Command.{Command}
use Rattle.pf_session.proofs.Running.{IsUnderWay, begun, one-more, one-cut, all-run, turn-by}
use Rattle.pf_session.proofs.server.session.Session.run_each.Goals as goal

pub loop-command-init : goal.loop-command-init
loop-command-init g c =
    let same = c.into_iter-command-iterator.ensures.into_iter_gives in
    record {
      len = omega (arith);
      way = λ lines meant. rw same.0 (begun g.G.Gate.passed g.J.Naming.base g.J.Chapter.setting lines c.args.commands.items c.args.self.now (g.O.Write.contents c.args.writer.now) meant c.requires);
    }

pub loop-command-preserved : goal.loop-command-preserved
loop-command-preserved g c =
    let steps = c.in-Some.ensures.steps in
    let passed = g.G.Gate.passed in
    let base = g.J.Naming.base in
    let setting = g.J.Chapter.setting in
    let (text, run, written) = c.in_ok-run_together.ensures.run in
    record {
      len = omega (arith);
      way = λ lines meant.
          one-more passed base setting (subst (λ (cs : List Command). IsUnderWay passed base setting lines cs c.args.self.now c.loop-command.self (g.O.Write.contents c.args.writer.now) (g.O.Write.contents c.loop-command.writer)) steps.0 (c.loop-command.invariant.way lines meant))
          c.run_together.new.self text (g.O.Write.contents c.run_together.new.writer) (turn-by passed base setting c.in-Some.command c.loop-command.self c.run_together.new.self text c.saturating_add-self.result c.saturating_add-self.ensures c.run_together.ensures.same run) written;
    }

pub returns-in_err-run_together : goal.returns-in_err-run_together
returns-in_err-run_together g c = λ lines meant.
    let (e, failed, same) = err_from_is_err_and c.from_residual.result c.from_residual.ensures.1 in
    let steps = c.in-Some.ensures.steps in
    let passed = g.G.Gate.passed in
    let base = g.J.Naming.base in
    let setting = g.J.Chapter.setting in
    let (text, run, front) = c.in_err-run_together.ensures.run in
    rw failed (one-cut passed base setting
    (subst (λ (cs : List Command). IsUnderWay passed base setting lines cs c.args.self.now c.loop-command.self (g.O.Write.contents c.args.writer.now) (g.O.Write.contents c.loop-command.writer)) steps.0 (c.loop-command.invariant.way lines meant))
    c.run_together.new.self text (g.O.Write.contents c.run_together.new.writer) (turn-by passed base setting c.in-Some.command c.loop-command.self c.run_together.new.self text c.saturating_add-self.result c.saturating_add-self.ensures c.run_together.ensures.same run) front)

pub returns : goal.returns
returns g c = λ lines meant.
    let passed = g.G.Gate.passed in
    let base = g.J.Naming.base in
    let setting = g.J.Chapter.setting in
    let gone : into_iter_items c.loop-command.command-iterator ≡ [] = nil_from_length (into_iter_items c.loop-command.command-iterator) (omega (arith, c.in-None.ensures.steps, c.loop-command.invariant.len)) in
    all-run passed base setting (subst (λ (cs : List Command). IsUnderWay passed base setting lines cs c.args.self.now c.loop-command.self (g.O.Write.contents c.args.writer.now) (g.O.Write.contents c.loop-command.writer)) gone (c.loop-command.invariant.way lines meant))
