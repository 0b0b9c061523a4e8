use Rattle.pf_anchor.proofs.AnchorRules.{in_two_parts, passes_over}
use Rattle.pf_anchor.proofs.laws.rules_are_evaluated_in_parts.Goals as goal

pub returns : goal.returns
returns c = record { parts = in_two_parts; passed = passes_over }
