use Rattle.pf_addr.specs.Writing.{Continues-ok, Continues-err}
use Rattle.pf_rule.specs.RuleText.{rule_text}
use Rattle.pf_conf.proofs.commit.lines.write_rule.Goals as goal

pub returns-in-Ok : goal.returns-in-Ok
returns-in-Ok g c =
    Continues-ok c.args.so_far _ c.write.result (g.W.Write.contents c.args.out.now) (g.W.Write.contents c.write.new.out) (rule_text c.args.rule.now) c.in-Ok.is c.write.ensures.text c.write.ensures.retried

pub returns-in-Err : goal.returns-in-Err
returns-in-Err g c = Continues-err c.args.so_far c.in-Err.e (g.W.Write.contents c.args.out.now) (rule_text c.args.rule.now) c.in-Err.is
