use Rattle.pf_state.proofs.ByExpiry.{dues_next}
use Rattle.pf_state.proofs.index.dues_of.Goals as goal

pub loop-state-preserved : goal.loop-state-preserved
loop-state-preserved c =
    rw c.in_ok-dues.ensures
    (dues_next c.args.states.now c.loop-state.state-index c.state-item.result c.loop-state.dues c.requires c.loop-state-test.true c.state-item.is c.loop-state.invariant)
