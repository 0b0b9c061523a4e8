use Rattle.pf_anchor.proofs.AnchorRules.{own_match, quick_ends, ends_the_verdict}
use Rattle.pf_anchor.proofs.laws.quick_rules_end_the_evaluation.Goals as goal

pub returns : goal.returns
returns c = record { own = own_match; ends = quick_ends; verdict = ends_the_verdict }
