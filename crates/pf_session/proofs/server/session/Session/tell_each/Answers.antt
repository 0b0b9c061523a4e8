use Rattle.std.proofs.{Common.{◌∙◌, List, [], ◌∷◌, ◌++◌, Ok, sym, ap, subst, append_assoc, arith}, lemmas.Result.err_from_is_err_and}
use Rattle.std.specs.Vec.Iter.{into_iter_items}
use Rattle.pf_book.specs.Groups.{Answered as Receipted, IsAnsweredAsAlone}
use Rattle.pf_session.proofs.Running.{IsTelling, telling-begun, one-replied, reply-cut, all-replied}
use Rattle.pf_session.proofs.server.session.Session.tell_each.Goals as goal

pub loop-answer-init : goal.loop-answer-init
loop-answer-init g c =
    let same = c.into_iter-answer-iterator.ensures.into_iter_gives in
    record {
      len = omega (arith);
      all = same.0;
      way = λ lines commands meant gates group.
          rw same.0 (telling-begun g.G.Gate.passed g.J.Naming.base g.J.Chapter.setting lines commands c.args.answers.items c.args.self.now (g.O.Write.contents c.args.writer.now) meant gates group);
    }

pub loop-answer-preserved : goal.loop-answer-preserved
loop-answer-preserved g c =
    let at = c.loop-answer in
    let steps = c.in-Some.ensures.steps in
    let passed = g.G.Gate.passed in
    let base = g.J.Naming.base in
    let setting = g.J.Chapter.setting in
    let left = into_iter_items c.next.new.self in
    let whole = sym at.invariant.all ∙ ap (λ (l : List Receipted). at.yielded ++ l) steps.0 in
    record {
      len = omega (arith);
      all = append_assoc at.yielded (c.in-Some.answer ∷ []) left ∙ sym whole;
      way = λ lines commands meant gates group.
          one-replied passed base setting c.in-Some.answer left (subst (λ (l : List Receipted). IsAnsweredAsAlone base setting commands (Ok l) c.args.self.now.last.now) whole group)
          (subst (λ (l : List Receipted). IsTelling passed base setting lines commands at.yielded l c.args.self.now at.self (g.O.Write.contents c.args.writer.now) (g.O.Write.contents at.writer)) steps.0 (at.invariant.way lines commands meant gates group))
          c.tell_one.new.self c.saturating_add-self.result c.saturating_add-self.ensures c.tell_one.ensures.same c.tell_one.ensures.kept (g.O.Write.contents c.tell_one.new.writer) c.in_ok-tell_one.ensures.written;
    }

pub returns-in_err-tell_one : goal.returns-in_err-tell_one
returns-in_err-tell_one g c = λ lines commands meant gates group.
    let (e, failed, same) = err_from_is_err_and c.from_residual.result c.from_residual.ensures.1 in
    let at = c.loop-answer in
    let steps = c.in-Some.ensures.steps in
    let passed = g.G.Gate.passed in
    let base = g.J.Naming.base in
    let setting = g.J.Chapter.setting in
    let left = into_iter_items c.next.new.self in
    let whole = sym at.invariant.all ∙ ap (λ (l : List Receipted). at.yielded ++ l) steps.0 in
    rw failed (reply-cut passed base setting c.in-Some.answer left (subst (λ (l : List Receipted). IsAnsweredAsAlone base setting commands (Ok l) c.args.self.now.last.now) whole group)
    (subst (λ (l : List Receipted). IsTelling passed base setting lines commands at.yielded l c.args.self.now at.self (g.O.Write.contents c.args.writer.now) (g.O.Write.contents at.writer)) steps.0 (at.invariant.way lines commands meant gates group))
    c.tell_one.new.self c.saturating_add-self.result c.saturating_add-self.ensures c.tell_one.ensures.same c.tell_one.ensures.kept (g.O.Write.contents c.tell_one.new.writer) c.in_err-tell_one.ensures.written)

pub returns : goal.returns
returns g c = λ lines commands meant gates group.
    all-replied g.G.Gate.passed g.J.Naming.base g.J.Chapter.setting (omega (arith, c.in-None.ensures.steps, c.loop-answer.invariant.len)) (c.loop-answer.invariant.way lines commands meant gates group)
