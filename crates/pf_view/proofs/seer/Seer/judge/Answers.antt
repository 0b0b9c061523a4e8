use Rattle.std.proofs.Common.{rules, subst}
use mathlib.Core.List.{IsPrefix}
use Rattle.left_right.specs.Sides.{view}
use Rattle.pf_view.specs.Seers.{PlainSeer}
use Rattle.pf_view.proofs.seer.Seer.judge.Goals as goal

pub returns-clause-seen : goal.returns-clause-seen
returns-clause-seen g c =
    let saw = c.in-Some.saw.front in
    let looked : IsPrefix (view c.self.inside.reader.place) saw = search rules in
    let learnt : IsPrefix c.self.inside.learnt saw = search rules in
    subst (λ (k : PlainSeer). IsPrefix k.seen saw) c.self.view_is (c.self.invariant.1 saw looked learnt)
