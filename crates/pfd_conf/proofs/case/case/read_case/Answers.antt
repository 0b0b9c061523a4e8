use Rattle.std.proofs.Common.{arith, rules}
use Rattle.std.proofs.lemmas.Grind.{common_steps}
use Rattle.pf_rule.specs.Refusals.{reading}
use Rattle.pfd_conf.proofs.case.case.read_case.Goals as goal

pub returns : goal.returns
unfolding reading
returns c = first_of (search rules, grind (arith, common_steps))
