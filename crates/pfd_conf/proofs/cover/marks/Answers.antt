use Rattle.std.proofs.Common.{List, ◌||◌, take, subst}
use Rattle.pfd_conf.specs.declared.outcomes.Outcome.{Outcome}
use Rattle.pfd_conf.specs.Covering.{AreMarks, decides_any, decides_some}
use Rattle.pfd_conf.proofs.Covered.{one_more_file}
use Rattle.pfd_conf.proofs.cover.marks.Goals as goal

pub loop-file-preserved : goal.loop-file-preserved
loop-file-preserved c =
    let so_far = c.mark_all.ensures (λ k. decides_some c.args.within k (take c.loop-file.file-index c.args.tried.now)) c.args.count
    c.loop-file.invariant in
    one_more_file c.args.within c.args.count c.args.tried.now c.loop-file.file-index c.file-item.result c.mark_all.new.marks.items
    c.loop-file-test.true c.file-item.is
    (subst (λ (os : List Outcome). AreMarks
    (λ k. decides_some c.args.within k (take c.loop-file.file-index c.args.tried.now) || decides_any c.args.within k os) c.args.count
    c.mark_all.new.marks.items)
    c.as_slice.ensures so_far)
