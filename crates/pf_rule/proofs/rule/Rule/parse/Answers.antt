use Rattle.std.proofs.Common.{inr, arith}
use Rattle.pf_rule.proofs.TextAnswers.{is_answer_rule}
use Rattle.pf_rule.proofs.rule.Rule.parse.Goals as goal

pub returns : goal.returns
returns c = is_answer_rule _ _ (inr (grind arith))
