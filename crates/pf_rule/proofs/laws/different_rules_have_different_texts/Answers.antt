use Rattle.pf_rule.specs.Laws.RuleText.{same_rule}
use Rattle.pf_rule.proofs.laws.different_rules_have_different_texts.Goals as goal

pub returns : goal.returns
returns c = same_rule
