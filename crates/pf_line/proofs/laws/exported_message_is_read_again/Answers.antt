use Rattle.pf_line.proofs.{ExportedLines.exports_are_read, SpelledStates.message_said}
use Rattle.pf_line.proofs.laws.exported_message_is_read_again.Goals as goal

pub returns-clause-words : goal.returns-clause-words
returns-clause-words c = message_said

pub returns-clause-lines : goal.returns-clause-lines
returns-clause-lines c = exports_are_read
