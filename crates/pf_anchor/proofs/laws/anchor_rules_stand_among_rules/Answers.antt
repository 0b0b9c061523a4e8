use Rattle.pf_anchor.proofs.AnchorRules.{ends_outside, nothing_within, match_within}
use Rattle.pf_anchor.proofs.laws.anchor_rules_stand_among_rules.Goals as goal

pub returns : goal.returns
returns c = record { ends = ends_outside; nothing = nothing_within; some = match_within }
