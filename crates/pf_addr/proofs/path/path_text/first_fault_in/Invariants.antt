use Rattle.std.proofs.Common.{◌≡◌, length}
use Rattle.pf_addr.specs.Path.Paths.{components, first_fault}
use Rattle.pf_addr.proofs.path.path_text.first_fault_in.Given as goal

abbrev pub invariant-loop-slash : goal.invariant-loop-slash
invariant-loop-slash l = first_fault (components l.text) ≡ first_fault (components l.rest)

abbrev pub decreases-loop-slash : goal.decreases-loop-slash
decreases-loop-slash l = length l.rest
