use Rattle.pf_conf.proofs.Texts.{one_more_rule}
use Rattle.pf_conf.proofs.shown.write_rules.Goals as goal

pub loop-number-preserved : goal.loop-number-preserved
loop-number-preserved g c =
    one_more_rule c.args.begun c.loop-number.so_far c.write_rule_line-so_far.result (g.W.Write.contents c.args.out.now) (g.W.Write.contents c.loop-number.out) (g.W.Write.contents c.write_rule_line-so_far.new.out) c.args.rules.now c.loop-number.number c.index-rules-number.result c.loop-number-test.true c.index-rules-number.is c.loop-number.invariant c.write_rule_line-so_far.ensures
