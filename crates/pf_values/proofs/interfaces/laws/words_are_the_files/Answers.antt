use Rattle.pf_values.proofs.Words.{words_are}
use Rattle.pf_values.proofs.interfaces.laws.words_are_the_files.Goals as goal

pub returns : goal.returns
returns c = words_are
