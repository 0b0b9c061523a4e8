use Rattle.pf_conf.specs.Rulesets.{PlacedRule}
use Rattle.pf_conf.specs.Commit.Lines.{place_text, add_line}
use Rattle.pf_conf.proofs.CommitTexts.{one_more}
use Rattle.pf_conf.proofs.commit.lines.write_adds.Goals as goal

pub loop-rule-preserved : goal.loop-rule-preserved
loop-rule-preserved g c =
    one_more (λ (r : PlacedRule). add_line (place_text c.args.path.now c.args.ticket.now) r.is) c.args.written c.loop-rule.so_far c.write_add-so_far.result (g.W.Write.contents c.args.out.now) (g.W.Write.contents c.loop-rule.out) (g.W.Write.contents c.write_add-so_far.new.out)
    c.args.rules.now c.loop-rule.rule-index c.rule-item.result c.loop-rule-test.true c.rule-item.is c.loop-rule.invariant c.write_add-so_far.ensures
