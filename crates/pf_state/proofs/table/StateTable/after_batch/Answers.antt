use Rattle.std.proofs.Common.{◌+◌, ◌<◌, ◌^◌, sym, ap, ◌∙◌, arith}
use Rattle.pf_state.specs.Steps.{is_over}
use Rattle.pf_state.proofs.Batches.{acting_next, acting_over, acting_all, counted_fits}
use Rattle.pf_state.proofs.table.StateTable.after_batch.Goals as goal

pub and-counts-requires : goal.and-counts-requires
and-counts-requires c =
    let short : c.loop-step.step-index + 65537 < 2 ^ 64 = omega arith in
    rw c.in_ok-left.ensures.counted (counted_fits c.args.self.now c.args.steps.now c.loop-step.step-index c.loop-step.states c.loop-step.counts c.step-item.result c.loop-step.invariant.0 short)

pub loop-step-preserved : goal.loop-step-preserved
loop-step-preserved c =
    let within = sym c.is_over.ensures ∙ c.if-is_over.false in (
      rw (c.in_ok-left.ensures.after, c.and-counts.ensures, c.in_ok-left.ensures.counted)
          (acting_next c.args.self.now c.args.steps.now c.loop-step.step-index c.loop-step.states c.loop-step.counts c.step-item.result c.loop-step.invariant.0 c.loop-step-test.true c.step-item.is
          (sym (ap is_over c.in_ok-left.ensures.after) ∙ within)),
      c.in_ok-left.ensures.whole,
      c.in_ok-left.ensures.lists,
    )

pub returns-then-is_over-clause-refused : goal.returns-then-is_over-clause-refused
returns-then-is_over-clause-refused c =
    let over = sym c.is_over.ensures ∙ c.if-is_over.true in
    acting_over c.args.self.now c.args.steps.now c.loop-step.step-index c.loop-step.states c.loop-step.counts c.step-item.result c.loop-step.invariant.0 c.loop-step-test.true c.step-item.is
    (sym (ap is_over c.in_ok-left.ensures.after) ∙ over)

pub returns-clause-refused : goal.returns-clause-refused
returns-clause-refused c = (acting_all c.args.self.now c.args.steps.now c.loop-step.step-index c.loop-step.states c.loop-step.counts c.loop-step.invariant.0 c.loop-step-test.false).limit

pub returns-clause-counts : goal.returns-clause-counts
returns-clause-counts c = (acting_all c.args.self.now c.args.steps.now c.loop-step.step-index c.loop-step.states c.loop-step.counts c.loop-step.invariant.0 c.loop-step-test.false).sum
