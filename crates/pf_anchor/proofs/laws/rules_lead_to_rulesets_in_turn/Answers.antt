use Rattle.pf_anchor.proofs.Leading.{taken_in_turn, leads_to_these_alone}
use Rattle.pf_anchor.proofs.laws.rules_lead_to_rulesets_in_turn.Goals as goal

pub returns : goal.returns
returns c = record { turn = taken_in_turn; leads = leads_to_these_alone }
