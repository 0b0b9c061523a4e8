use Rattle.std.proofs.Common.{sym}
use Rattle.pf_state.proofs.Ticks.{states_due, whole_due, due_counted}
use Rattle.pf_state.proofs.table.StateTable.expire.Goals as goal

pub invariant_of-self : goal.invariant_of-self
invariant_of-self c =
    rw (c.in_ok-left.ensures, c.in_ok-shared.ensures)
    (states_due c.self.inside.index c.args.tick c.self.invariant.0, whole_due c.self.inside.index c.args.tick c.self.invariant.1)

pub returns-clause-count : goal.returns-clause-count
returns-clause-count c = rw (c.len-before.ensures, c.len.ensures, c.in_ok-left.ensures, c.in_ok-shared.ensures, sym c.self.view_is) (due_counted c.self.inside.index c.args.tick)
