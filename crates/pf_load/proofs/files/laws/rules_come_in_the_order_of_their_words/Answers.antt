use Rattle.pf_load.proofs.Standing.{rules_in_order}
use Rattle.pf_load.proofs.files.laws.rules_come_in_the_order_of_their_words.Goals as goal

pub returns : goal.returns
returns c = rules_in_order
