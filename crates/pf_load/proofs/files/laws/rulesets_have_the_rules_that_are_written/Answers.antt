use Rattle.pf_load.proofs.Rulesets.{rules_are_of}
use Rattle.pf_load.proofs.files.laws.rulesets_have_the_rules_that_are_written.Goals as goal

pub returns : goal.returns
returns c = rules_are_of
