use Rattle.std.proofs.Common.{sym}
use Rattle.pf_state.proofs.Counting.{states_cleared, cleared_count}
use Rattle.pf_state.proofs.Whole.{whole_cleared}
use Rattle.pf_state.proofs.table.StateTable.clear_creator.Goals as goal

pub invariant_of-self : goal.invariant_of-self
invariant_of-self c =
    rw (c.in_ok-left.ensures, c.in_ok-shared.ensures)
    (states_cleared c.self.inside.index c.args.creator c.self.invariant.0, whole_cleared c.self.inside.index c.args.creator c.self.invariant.1)

pub returns-clause-count : goal.returns-clause-count
returns-clause-count c = rw (c.len-before.ensures, c.len.ensures, c.in_ok-left.ensures, c.in_ok-shared.ensures, sym c.self.view_is) (cleared_count c.self.inside.index c.args.creator)
