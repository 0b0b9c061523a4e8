use Rattle.std.proofs.Common.{◌≡◌, ◌≤◌, take, length}
use Rattle.pf_anchor.specs.declared.limits.TheConstants.{RULE_LIMIT}
use Rattle.pfd_conf.specs.Firewalls.{rules_in}
use Rattle.pfd_conf.proofs.firewall.rules_of.Given as goal

abbrev pub invariant-loop-rule : goal.invariant-loop-rule
invariant-loop-rule l = (l.plain.items ≡ rules_in (take l.rule-index l.rules)) × (length l.plain.items ≡ l.rule-index)
    × (l.rule-index ≤ RULE_LIMIT)
