use Rattle.std.proofs.Common.{arith}
use Rattle.std.specs.List.{flat_map}
use Rattle.pf_load.specs.Changes.{rules_question}
use Rattle.pf_conf.proofs.CommitTexts.{one_more_text, stopped_at_text, sent_front}
use Rattle.pf_load.proofs.changes.show_rulesets.Goals as goal

pub returns-in_err-show_rules : goal.returns-in_err-show_rules
returns-in_err-show_rules g c =
    sent_front c.from_residual.result _ (g.W.Write.contents c.args.server.now) (g.W.Write.contents c.show_rules.new.server) (flat_map rules_question c.args.rulesets.now) c.from_residual.ensures.1
    (stopped_at_text rules_question (g.W.Write.contents c.args.server.now) (g.W.Write.contents c.loop-ruleset.server) (g.W.Write.contents c.show_rules.new.server) c.args.rulesets.now c.loop-ruleset.ruleset-index c.ruleset-item.result
    (omega arith) c.ruleset-item.is c.loop-ruleset.invariant c.in_err-show_rules.ensures)

pub loop-ruleset-preserved : goal.loop-ruleset-preserved
loop-ruleset-preserved g c =
    one_more_text rules_question (g.W.Write.contents c.args.server.now) (g.W.Write.contents c.loop-ruleset.server) (g.W.Write.contents c.show_rules.new.server) c.args.rulesets.now c.loop-ruleset.ruleset-index c.ruleset-item.result
    (omega arith) c.ruleset-item.is c.loop-ruleset.invariant c.in_ok-show_rules.ensures
