use Rattle.std.proofs.Common.{◌≡◌, arith}
use Rattle.std.proofs.lemmas.Bool.Decides.{nat_tests}
use Rattle.pf_anchor.specs.declared.limits.TheConstants.{RULE_LIMIT}
use Rattle.pfd_conf.proofs.Rules.{first_rules, all_rules}
use Rattle.pfd_conf.proofs.firewall.rules_of.Goals as goal

pub returns-then-len-eq-RULE_LIMIT-clause-rules : goal.returns-then-len-eq-RULE_LIMIT-clause-rules
returns-then-len-eq-RULE_LIMIT-clause-rules c =
    let many : c.loop-rule.rule-index ≡ RULE_LIMIT = grind (arith, nat_tests) in
    first_rules c.args.rules.now c.loop-rule.rule-index c.loop-rule.plain.items c.loop-rule.invariant.0 many

pub returns-clause-rules : goal.returns-clause-rules
returns-clause-rules c = all_rules c.args.rules.now c.loop-rule.rule-index c.loop-rule.plain.items c.loop-rule.invariant.0
    c.loop-rule.invariant.2 c.loop-rule-test.false
