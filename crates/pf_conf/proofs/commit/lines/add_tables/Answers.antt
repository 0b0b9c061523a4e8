use Rattle.pf_conf.specs.Commit.Lines.{table_lines}
use Rattle.pf_conf.proofs.CommitTexts.{one_more_after}
use Rattle.pf_conf.proofs.commit.lines.add_tables.Goals as goal

pub loop-table-preserved : goal.loop-table-preserved
loop-table-preserved c =
    one_more_after (table_lines c.args.begun.now) c.args.text.now.items c.loop-table.text.items c.add_table.new.text.items c.args.tables.now c.loop-table.table-index c.table-item.result c.loop-table-test.true c.table-item.is
    c.loop-table.invariant c.in_ok-add_table.ensures
