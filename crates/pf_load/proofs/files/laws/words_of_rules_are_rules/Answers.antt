use Rattle.pf_load.proofs.Words.{rules_alone}
use Rattle.pf_load.proofs.files.laws.words_of_rules_are_rules.Goals as goal

pub returns : goal.returns
returns c = rules_alone c.rules_and_packets_are_read_as_spelled.ensures.rules
