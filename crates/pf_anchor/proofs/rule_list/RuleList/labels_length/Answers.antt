use Rattle.std.proofs.Common.{arith}
use Rattle.pf_anchor.proofs.Labels.{labels_few}
use Rattle.pf_anchor.proofs.rule_list.RuleList.labels_length.Goals as goal

pub returns-clause-few : goal.returns-clause-few
returns-clause-few c = omega (arith, c.self.invariant.0, c.self.invariant.3, labels_few _ c.self.invariant.1)
