use Rattle.std.proofs.Common.{[], sym, ap, ◌∙◌}
use Rattle.pf_anchor.specs.{Evaluation.matching, Known.ruleset_gives}
use Rattle.pf_anchor.proofs.{Evaluations.no_rules, Turns.plain_turn}
use Rattle.pf_anchor.proofs.judge.evaluate_main_in_order.Goals as goal

pub returns-in-Some : goal.returns-in-Some
returns-in-Some c =
    let config = c.args.config.now in
    c.in-Some.ensures ∙ plain_turn (ruleset_gives config c.args.packet.now) config.rulesets [] c.placed_at-main.ensures.map.sorted (no_rules config.rulesets (matching config.tables c.args.packet.now) [])
    ∙ ap (ruleset_gives config c.args.packet.now) (sym c.requires)
