use Rattle.std.proofs.Common.{length}
use Rattle.pf_state.proofs.Ticks.{Standing}
use Rattle.pf_state.proofs.change.standing.Given as goal

abbrev pub invariant-loop-name : goal.invariant-loop-name
invariant-loop-name l = Standing l.fn.states l.tick l.left

abbrev pub decreases-loop-name : goal.decreases-loop-name
decreases-loop-name l = length l.left
