use Rattle.std.proofs.Common.{◌≡◌, []}
use Rattle.pf_state.proofs.Pushing.{states_fit}
use Rattle.pf_state.proofs.layouts.lists.push_states.Goals as goal

pub returns-clause-fits : goal.returns-clause-fits
returns-clause-fits c =
    let none : (c.loop-state.state-iterator ≡ []) × (c.next.new.self ≡ []) = c.in-None.ensures.steps in
    states_fit c.args.version c.args.table.now c.states-states.ensures.table (c.loop-state.invariant.pushing.fits (rw none.0 tt))
