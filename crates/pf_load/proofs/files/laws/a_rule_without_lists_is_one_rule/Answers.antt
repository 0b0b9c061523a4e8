use Rattle.pf_load.proofs.Lists.{one_rule}
use Rattle.pf_load.proofs.files.laws.a_rule_without_lists_is_one_rule.Goals as goal

pub returns : goal.returns
returns c = one_rule c.rules_are_counted.ensures c.ways_have_numbers.ensures.number
