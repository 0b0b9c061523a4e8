use Rattle.pf_conf.specs.Commit.Lines.{table_lines}
use Rattle.pf_conf.proofs.CommitTexts.{grown}
use Rattle.pf_conf.proofs.commit.lines.add_table.Goals as goal

pub returns-in-Ok : goal.returns-in-Ok
returns-in-Ok c =
    grown c.write_table.result c.in-Ok.field-0 c.args.text.now.items c.write_table.new.out.items (table_lines c.args.begun.now c.args.table.now) c.write_table.ensures c.in-Ok.is
