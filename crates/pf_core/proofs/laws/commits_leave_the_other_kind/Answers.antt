use Rattle.pf_core.proofs.Switching.{leave_the_other_kind}
use Rattle.pf_core.proofs.laws.commits_leave_the_other_kind.Goals as goal

pub returns : goal.returns
returns c = leave_the_other_kind
