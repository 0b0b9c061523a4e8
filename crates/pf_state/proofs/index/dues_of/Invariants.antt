use Rattle.std.proofs.Common.{take}
use Rattle.pf_state.specs.Dues.{AreDues}
use Rattle.pf_state.proofs.index.dues_of.Given as goal

abbrev pub invariant-loop-state : goal.invariant-loop-state
invariant-loop-state l = AreDues (take l.state-index l.states) l.dues
