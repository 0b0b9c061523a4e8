use Rattle.pf_anchor.proofs.RulesetMaps.{children_have_rules}
use Rattle.pf_anchor.proofs.laws.children_are_those_with_rules.Goals as goal

pub returns : goal.returns
returns c = children_have_rules
