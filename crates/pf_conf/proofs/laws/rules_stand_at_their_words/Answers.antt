use Rattle.pf_conf.specs.{Rulesets.PlacedRule, Laws.IsRulePlace}
use Rattle.pf_conf.proofs.{Kept.rules_so, Places.files_at}
use Rattle.pf_conf.proofs.laws.rules_stand_at_their_words.Goals as goal

pub returns : goal.returns
returns c =
    λ files interfaces. rules_so (λ (r : PlacedRule). IsRulePlace files interfaces r.place) files interfaces
    (files_at c.rules_stand_at_their_words.ensures files interfaces)
