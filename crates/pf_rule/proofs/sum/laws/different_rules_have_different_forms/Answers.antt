use Rattle.pf_rule.proofs.RuleBytes.{same_form}
use Rattle.pf_rule.proofs.sum.laws.different_rules_have_different_forms.Goals as goal

pub returns : goal.returns
returns c = same_form
