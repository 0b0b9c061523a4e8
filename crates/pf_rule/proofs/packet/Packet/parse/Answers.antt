use Rattle.std.proofs.Common.{inr, arith}
use Rattle.pf_rule.proofs.TextAnswers.{is_answer_packet}
use Rattle.pf_rule.proofs.packet.Packet.parse.Goals as goal

pub returns : goal.returns
returns c = is_answer_packet _ _ (inr (grind arith))
