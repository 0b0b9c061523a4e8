use Rattle.std.proofs.Common.{get_or, refl}
use Rattle.pf_state.proofs.Listed.{taking_one, taking_all}
use Rattle.pf_state.proofs.clears.clear_listed.Goals as goal

pub loop-id-preserved : goal.loop-id-preserved
loop-id-preserved c =
    rw c.in_ok-left.ensures (taking_one c.args.states c.args.creator c.args.ids.now c.loop-id.id-index c.loop-id.left (get_or c.args.ids.now c.loop-id.id-index 0) c.loop-id.invariant c.loop-id-test.true refl)

pub returns : goal.returns
returns c = taking_all c.args.states c.args.creator c.args.ids.now c.loop-id.id-index c.loop-id.left c.requires.sorted c.requires.all c.loop-id.invariant c.loop-id-test.false
