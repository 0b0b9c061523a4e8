use Rattle.std.proofs.{Common.{ap, length, take, ◌∙◌, arith}, lemmas.List.{take_all, length-take-le}}
use Rattle.pf_anchor.specs.Forms.{labels_length}
use Rattle.pf_anchor.proofs.{Labels.{label_short, labels_few, labels_taken}, Lengths.{rules_taken, rules_all}}
use Rattle.pf_anchor.proofs.rule_list.labels_length.Goals as goal

pub overflow_add-total : goal.overflow_add-total
overflow_add-total c =
    omega (
      arith,
      c.loop-rule.invariant.counted,
      labels_few (take c.loop-rule.rule-index c.args.rules.now) c.loop-rule.invariant.are,
      length-take-le c.loop-rule.rule-index c.args.rules.now (omega (arith, c.loop-rule-test.true)),
      label_short c.rule-item.result c.effect-effect.ensures.kept,
      ap length c.label.ensures,
      c.requires,
    )

pub loop-rule-preserved : goal.loop-rule-preserved
loop-rule-preserved c = record {
  counted = omega (
    arith,
    c.loop-rule.invariant.counted,
    labels_taken c.args.rules.now c.loop-rule.rule-index c.rule-item.result c.loop-rule-test.true c.rule-item.is,
    ap length c.label.ensures,
  );
  are = rules_taken c.args.rules.now c.loop-rule.rule-index c.rule-item.result c.loop-rule-test.true c.rule-item.is c.loop-rule.invariant.are
      c.effect-effect.ensures.kept;
}

pub returns : goal.returns
returns c = record {
  value = c.loop-rule.invariant.counted ∙ ap labels_length (take_all c.loop-rule.rule-index c.args.rules.now c.loop-rule-test.false);
  rules = rules_all c.args.rules.now c.loop-rule.rule-index c.loop-rule-test.false c.loop-rule.invariant.are;
}
