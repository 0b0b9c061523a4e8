use Rattle.std.proofs.Common.{ap, sym, ◌∙◌}
use Rattle.pf_rule.specs.Sum.Forms.{ruleset_sum}
use Rattle.pf_core.specs.Durable.Changes.{PlainDurable, sum_of}
use Rattle.pf_core.proofs.MainRules.{stays}
use Rattle.pf_core.proofs.durable.durable.Durable.sum_after.Goals as goal

-- the main ruleset isn't replaced, and its checksum stays
pub returns-then-not-replaces_main : goal.returns-then-not-replaces_main
returns-then-not-replaces_main c =
    c.self.invariant.0
    ∙ ap (λ (d : PlainDurable). sum_of d.config) c.self.view_is
    ∙ ap ruleset_sum (sym (stays c.args.rulesets.now c.args.self.now.config (sym c.replaces_main.ensures ∙ c.if-not-replaces_main.true)))
    ∙ ap sum_of (sym c.requires)
