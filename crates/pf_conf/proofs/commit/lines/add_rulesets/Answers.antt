use Rattle.pf_conf.specs.Commit.Lines.{rules_lines}
use Rattle.pf_conf.proofs.CommitTexts.{grown}
use Rattle.pf_conf.proofs.commit.lines.add_rulesets.Goals as goal

pub returns-in-Ok : goal.returns-in-Ok
returns-in-Ok c =
    grown c.write_rulesets.result c.in-Ok.field-0 c.args.text.now.items c.write_rulesets.new.out.items (rules_lines c.args.begun.now c.args.rulesets.now) c.write_rulesets.ensures c.in-Ok.is
