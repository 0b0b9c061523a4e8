use Rattle.pf_tokens.proofs.InOrder.{lex-in_order}
use Rattle.pf_tokens.proofs.laws.tokens_stand_in_their_text.Goals as goal

pub returns : goal.returns
returns c = λ source n text ts is. lex-in_order source n 0 text ts is
