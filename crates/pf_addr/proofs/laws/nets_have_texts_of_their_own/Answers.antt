use Rattle.pf_addr.specs.Laws.Spelling.{own_net_text}
use Rattle.pf_addr.proofs.laws.nets_have_texts_of_their_own.Goals as goal

pub returns : goal.returns
returns c = own_net_text
