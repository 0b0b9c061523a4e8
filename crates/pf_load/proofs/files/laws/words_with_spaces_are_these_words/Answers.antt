use Rattle.pf_load.proofs.Spaces.{words_are_read}
use Rattle.pf_load.proofs.files.laws.words_with_spaces_are_these_words.Goals as goal

pub returns : goal.returns
returns c = words_are_read
