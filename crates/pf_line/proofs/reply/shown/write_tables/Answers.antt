use Rattle.pf_line.proofs.Writers.{one_more_table}
use Rattle.pf_line.proofs.reply.shown.write_tables.Goals as goal

pub loop-table-preserved : goal.loop-table-preserved
loop-table-preserved g c =
    one_more_table c.loop-table.so_far c.write_table-so_far.result c.end_line-so_far.result (g.W.Write.contents c.args.out.now) (g.W.Write.contents c.loop-table.out) (g.W.Write.contents c.write_table-so_far.new.out) (g.W.Write.contents c.end_line-so_far.new.out) c.args.tables.now c.loop-table.table-index c.table-item.result c.loop-table-test.true c.table-item.is c.loop-table.invariant c.write_table-so_far.ensures c.end_line-so_far.ensures
