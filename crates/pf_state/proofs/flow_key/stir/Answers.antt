use Rattle.std.proofs.Common.{rules}
use Rattle.pf_state.specs.FlowKeys.{stirred}
use Rattle.pf_state.proofs.flow_key.stir.Goals as goal

pub returns : goal.returns
unfolding stirred
returns c = search rules
