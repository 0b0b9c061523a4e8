use Rattle.pf_state.proofs.Cut.{cuts_into_parts, exports_messages}
use Rattle.pf_state.proofs.failover.laws.exports_are_cut.Goals as goal

pub returns-clause-parts : goal.returns-clause-parts
returns-clause-parts c = cuts_into_parts

pub returns-clause-messages : goal.returns-clause-messages
returns-clause-messages c = exports_messages
