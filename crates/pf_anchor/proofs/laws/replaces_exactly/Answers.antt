use Rattle.pf_anchor.proofs.RulesetMaps.{map_all}
use Rattle.pf_anchor.proofs.laws.replaces_exactly.Goals as goal

pub returns-clause-map : goal.returns-clause-map
returns-clause-map c = map_all
