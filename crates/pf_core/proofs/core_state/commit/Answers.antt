use Rattle.std.proofs.Common.{sym}
use Rattle.pf_ticket.specs.Mentions.{after, switches}
use Rattle.pf_core.proofs.Switching.{named-alone}
use Rattle.pf_core.proofs.core_state.commit.Goals as goal

pub check_limits-requires : goal.check_limits-requires
check_limits-requires c =
    rw (c.as_slice.ensures.value, c.in_ok-items.ensures)
    (named-alone (after c.args.tickets.now (switches c.args.before.now)) c.args.entries.now (sym c.in_ok-check_all_after.ensures))
