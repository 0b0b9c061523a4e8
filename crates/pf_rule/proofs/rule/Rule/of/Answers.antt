use Rattle.std.proofs.Common.{sym, subst}
use Rattle.pf_rule.specs.{Rules.IsRule}
use Rattle.pf_rule.proofs.RuleKept.{parts_again}
use Rattle.pf_rule.proofs.rule.Rule.of.Goals as goal

pub invariant_of-result : goal.invariant_of-result
invariant_of-result c = rw c.labelled.ensures (subst IsRule (sym (parts_again c.args.parts c.requires)) c.requires)

pub returns : goal.returns
returns c = rw c.labelled.ensures (parts_again c.args.parts c.requires)
