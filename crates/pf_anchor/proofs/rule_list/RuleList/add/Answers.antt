use Rattle.std.proofs.Common.{List, length, ◌<◌, sym, ap, subst, arith}
use Rattle.pf_rule.specs.Rules.{PlainRule}
use Rattle.pf_anchor.specs.declared.limits.TheConstants.{RULE_LIMIT}
use Rattle.pf_anchor.proofs.{Labels.{label_short, labels_few, labels_more}, Lengths.{rules_more, few_more}}
use Rattle.pf_anchor.proofs.rule_list.RuleList.add.Goals as goal

pub overflow_add-self : goal.overflow_add-self
overflow_add-self c =
    omega (
      arith,
      c.self.invariant.0,
      c.self.invariant.3,
      labels_few _ c.self.invariant.1,
      label_short c.args.rule c.effect-effect.ensures.kept,
      ap length c.label-more.ensures,
    )

pub invariant_of-self-2 : goal.invariant_of-self-2
invariant_of-self-2 c =
    let few = subst (λ (rs : List PlainRule). length rs < RULE_LIMIT) (sym c.self.view_is) c.requires in (
      few_more _ _ c.args.rule c.in_ok-push_rule.ensures.ok few,
      rules_more _ _ c.args.rule c.in_ok-push_rule.ensures.ok c.self.invariant.1 c.effect-effect.ensures.kept,
      tt,
      omega (arith, labels_more _ _ c.args.rule c.in_ok-push_rule.ensures.ok, c.self.invariant.3, ap length c.label-more.ensures),
    )
