use Rattle.pf_session.proofs.TakingOver.{takes_over, fresh_takes_over}
use Rattle.pf_session.proofs.laws.takes_over.Goals as goal

pub returns-clause-any : goal.returns-clause-any
returns-clause-any g c = takes_over g.D.Disk.fault_count

pub returns-clause-fresh : goal.returns-clause-fresh
returns-clause-fresh g c = fresh_takes_over g.D.Disk.fault_count
