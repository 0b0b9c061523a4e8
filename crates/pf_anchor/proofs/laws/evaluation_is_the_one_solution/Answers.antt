use Rattle.pf_anchor.proofs.Evaluations.{unrolled, only_solution, depth_is_enough}
use Rattle.pf_anchor.proofs.laws.evaluation_is_the_one_solution.Goals as goal

pub returns : goal.returns
returns c = record { unrolls = unrolled; only = only_solution; depth = depth_is_enough }
