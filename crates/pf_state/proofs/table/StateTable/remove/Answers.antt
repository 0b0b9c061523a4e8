use Rattle.pf_state.proofs.Counting.{states_deleted}
use Rattle.pf_state.proofs.Whole.{whole_without}
use Rattle.pf_state.proofs.table.StateTable.remove.Goals as goal

pub invariant_of-self : goal.invariant_of-self
invariant_of-self c =
    rw (c.in_ok-left.ensures, c.in_ok-shared.ensures)
    (states_deleted c.self.inside.index c.args.name c.self.invariant.0, whole_without c.self.inside.index c.args.name c.self.invariant.1)
