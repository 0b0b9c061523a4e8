use Rattle.pf_conf.specs.Commit.Lines.{add_lines}
use Rattle.pf_conf.proofs.CommitTexts.{one_more}
use Rattle.pf_conf.proofs.commit.lines.write_rulesets.Goals as goal

pub loop-ruleset-preserved : goal.loop-ruleset-preserved
loop-ruleset-preserved g c =
    one_more (add_lines c.args.begun.now) c.args.written c.loop-ruleset.so_far c.write_ruleset-so_far.result (g.W.Write.contents c.args.out.now) (g.W.Write.contents c.loop-ruleset.out) (g.W.Write.contents c.write_ruleset-so_far.new.out)
    c.args.rulesets.now c.loop-ruleset.ruleset-index c.ruleset-item.result c.loop-ruleset-test.true c.ruleset-item.is c.loop-ruleset.invariant c.write_ruleset-so_far.ensures
