use Rattle.pf_parse.proofs.Beginnings.{rules_begin}
use Rattle.pf_parse.proofs.laws.rules_stand_at_their_words.Goals as goal

pub returns : goal.returns
returns c = rules_begin
