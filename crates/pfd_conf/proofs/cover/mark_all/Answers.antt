use Rattle.std.proofs.Common.{List, ◌||◌, subst, take}
use Rattle.std.proofs.lemmas.List.{take_all}
use Rattle.pfd_conf.specs.declared.outcomes.Outcome.{Outcome}
use Rattle.pfd_conf.specs.Covering.{AreMarks, decides_any}
use Rattle.pfd_conf.proofs.Covered.{one_more_outcome}
use Rattle.pfd_conf.proofs.cover.mark_all.Goals as goal

pub loop-outcome-preserved : goal.loop-outcome-preserved
loop-outcome-preserved c = λ P count m.
    one_more_outcome P c.args.within count c.args.outcomes.now c.loop-outcome.outcome-index _ c.mark.new.marks.items
    c.loop-outcome-test.true
    (c.mark.ensures (λ k. P k || decides_any c.args.within k (take c.loop-outcome.outcome-index c.args.outcomes.now)) count
    (c.loop-outcome.invariant P count m))

pub returns : goal.returns
returns c = λ P count m.
    subst (λ (os : List Outcome). AreMarks (λ k. P k || decides_any c.args.within k os) count c.loop-outcome.marks.items)
    (take_all c.loop-outcome.outcome-index c.args.outcomes.now c.loop-outcome-test.false) (c.loop-outcome.invariant P count m)
