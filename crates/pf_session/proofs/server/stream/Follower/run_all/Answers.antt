use Rattle.std.proofs.{Common.{◌∙◌, ap}, lemmas.Result.err_from_is_err_and}
use Rattle.std.specs.Slice.Iter.{chunks_rest, chunks_size}
use Rattle.pf_session.proofs.Grouping.{IsNext, all-run, begun, one-cut, one-more}
use Rattle.pf_session.proofs.server.stream.Follower.run_all.Goals as goal

pub loop-group-init : goal.loop-group-init
loop-group-init g c =
    let made = c.chunks-group-items.ensures in
    let same = c.into_iter-group-iterator.ensures.into_iter_gives in
    record {
      size = ap chunks_size same ∙ made.size;
      ran = λ messages is. begun g.J.Naming.base g.J.Chapter.setting messages (chunks_rest c.into_iter-group-iterator.result) c.args.self.now.last (g.O.Write.contents c.args.writer.now) (ap chunks_rest same ∙ made.rest ∙ is);
    }

pub loop-group-preserved : goal.loop-group-preserved
loop-group-preserved g c =
    let at = c.loop-group in
    let steps = c.in-Some.ensures.steps in
    let next : IsNext (chunks_rest at.group-iterator) c.in-Some.group.now (chunks_rest c.next.new.self) =
    record { split = steps.1.0; size = rw at.invariant.size at steps.1.1; some = steps.1.2 } in
    record {
      size = steps.0 ∙ at.invariant.size;
      ran = λ messages is.
          one-more g.J.Naming.base g.J.Chapter.setting messages (chunks_rest at.group-iterator) c.in-Some.group.now (chunks_rest c.next.new.self) c.args.self.now.last at.self.last c.run_group.new.self.last
          (g.O.Write.contents c.args.writer.now) (g.O.Write.contents at.writer) (g.O.Write.contents c.run_group.new.writer) next (at.invariant.ran messages is) c.in_ok-run_group.ensures;
    }

pub returns-in_err-run_group : goal.returns-in_err-run_group
returns-in_err-run_group g c = λ messages is.
    let at = c.loop-group in
    let steps = c.in-Some.ensures.steps in
    let next : IsNext (chunks_rest at.group-iterator) c.in-Some.group.now (chunks_rest c.next.new.self) =
    record { split = steps.1.0; size = rw at.invariant.size at steps.1.1; some = steps.1.2 } in
    let (e, failed, same) = err_from_is_err_and c.from_residual.result c.from_residual.ensures.1 in
    rw failed (one-cut g.J.Naming.base g.J.Chapter.setting messages (chunks_rest at.group-iterator) c.in-Some.group.now (chunks_rest c.next.new.self) c.args.self.now.last at.self.last c.run_group.new.self.last
    (g.O.Write.contents c.args.writer.now) (g.O.Write.contents at.writer) (g.O.Write.contents c.run_group.new.writer) next (at.invariant.ran messages is) e c.in_err-run_group.ensures)

pub returns : goal.returns
returns g c = λ messages is.
    let at = c.loop-group in
    all-run g.J.Naming.base g.J.Chapter.setting _ messages (chunks_rest at.group-iterator) c.args.self.now.last at.self.last (g.O.Write.contents c.args.writer.now) (g.O.Write.contents at.writer)
    c.in-None.ensures.steps.1.0 (at.invariant.ran messages is)
