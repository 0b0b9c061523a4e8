use Rattle.pfd_conf.specs.Covering.{uncovered_of}
use Rattle.pfd_conf.proofs.Covered.{one_more_ruleset}
use Rattle.pfd_conf.proofs.firewall.Origins.uncovered.Goals as goal

pub loop-within-preserved : goal.loop-within-preserved
loop-within-preserved c =
    let listed = c.rulesets-ruleset-items.ensures in
    one_more_ruleset c.args.tried.now c.args.self.now.rulesets c.loop-within.within c.ruleset-item.result
    c.in_ok-marks.marks.items
    (uncovered_of c.args.tried.now c.args.self.now.rulesets) c.loop-within.uncovered c.add_unmarked.new.unmarked
    c.loop-within.invariant
    (rw listed at c.loop-within-test.true) (rw listed at c.ruleset-item.is) (rw c.as_slice-rules.ensures at c.in_ok-marks.ensures)
    (rw (c.as_slice-rules.ensures, c.deref.ensures.value) at c.in_ok-add_unmarked.ensures)
