use Rattle.pf_rule.specs.Laws.Value.Reading.{protocol_found, protocol_only}
use Rattle.pf_rule.proofs.value.laws.protocol_words_are_read_as_spelled.Goals as goal

pub returns-clause-read : goal.returns-clause-read
returns-clause-read c = protocol_found

pub returns-clause-spelled : goal.returns-clause-spelled
returns-clause-spelled c = protocol_only
