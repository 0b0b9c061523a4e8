use Rattle.std.proofs.{Common.{◌≡◌, List, map, subst}, lemmas.List.take_all}
use Rattle.pf_rule.specs.{Rules.PlainRule, Sum.{Layouts.plain_rule, Reading.rule_of}}
use Rattle.pf_store.proofs.RecordedForms.{again_taken}
use Rattle.pf_store.proofs.encoding.facts.rules_are_their_data.Goals as goal

pub loop-rule-preserved : goal.loop-rule-preserved
loop-rule-preserved c =
    again_taken plain_rule rule_of c.args.rules.now c.loop-rule.rule-index c.rule-item.result c.loop-rule-test.true c.rule-item.is c.loop-rule.invariant
    c.rule_is_its_data.ensures

pub returns : goal.returns
returns c =
    subst (λ (rs : List PlainRule). map rule_of (map plain_rule rs) ≡ rs) (take_all c.loop-rule.rule-index c.args.rules.now c.loop-rule-test.false) c.loop-rule.invariant
