use Rattle.std.proofs.Common.{◌∙◌}
use Rattle.pf_store.proofs.Leading.{follow_on, left_on, stuck}
use Rattle.pf_store.proofs.store.replaying.left_by_all.Goals as goal

pub returns-in-Err-clause-none : goal.returns-in-Err-clause-none
returns-in-Err-clause-none c no_form =
    let inv = c.loop-next.invariant in
    stuck c.args.durable c.loop-next.left c.args.records.now c.loop-next.next-index c.next-item.result c.loop-next-test.true c.next-item.is inv.0 inv.1 (c.in-Err.ensures.none no_form)

pub loop-next-preserved : goal.loop-next-preserved
loop-next-preserved c =
    let inv = c.loop-next.invariant in
    let more = c.in-Ok.ensures.left in (
      follow_on c.args.durable c.loop-next.left c.args.records.now c.loop-next.next-index c.next-item.result c.loop-next-test.true c.next-item.is inv.0 inv.1 more.0,
      more.1 ∙ left_on c.args.durable c.loop-next.left c.args.records.now c.loop-next.next-index c.next-item.result c.loop-next-test.true c.next-item.is inv.0 inv.1,
    )
