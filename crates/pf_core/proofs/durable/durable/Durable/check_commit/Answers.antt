use Rattle.pf_core.proofs.Checks.{unrefused}
use Rattle.pf_core.proofs.durable.durable.Durable.check_commit.Goals as goal

pub check_limits-requires : goal.check_limits-requires
check_limits-requires c = unrefused _ _ (c.in_ok-check_names.ensures (λ e. (cc)))
