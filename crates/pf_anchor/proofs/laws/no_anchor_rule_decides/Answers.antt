use Rattle.pf_anchor.proofs.Deciding.{verdict_rule_decides, anchors_never_decide}
use Rattle.pf_anchor.proofs.laws.no_anchor_rule_decides.Goals as goal

pub returns : goal.returns
returns c = record { reported = verdict_rule_decides; found = anchors_never_decide }
