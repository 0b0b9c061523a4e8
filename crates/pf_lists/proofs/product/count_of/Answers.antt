use Rattle.std.proofs.Common.{◌-◌, ◌^◌}
use Rattle.pf_lists.proofs.Turns.{capped_end}
use Rattle.pf_lists.proofs.product.count_of.Goals as goal

pub returns : goal.returns
returns c =
    capped_end c.args.lists.now c.loop-list.list-index c.loop-list.count (2 ^ 64 - 1) _ c.loop-list-test.false c.loop-list.invariant.within c.loop-list.invariant.ways
