use Rattle.std.proofs.Common.{◌≡◌, take}
use Rattle.std.specs.Prelude.{All}
use Rattle.pf_rule.specs.Rules.{IsRule}
use Rattle.pf_anchor.specs.Forms.{labels_length}
use Rattle.pf_anchor.proofs.rule_list.labels_length.Given as goal

abbrev pub invariant-loop-rule : goal.invariant-loop-rule
invariant-loop-rule l =
    record { counted : l.total ≡ labels_length (take l.rule-index l.rules); are : All IsRule (take l.rule-index l.rules) }
