use Rattle.pf_conf.specs.Shown.{table_line}
use Rattle.pf_conf.proofs.Texts.{Before}
use Rattle.pf_conf.proofs.shown.write_tables.Given as goal

abbrev pub invariant-loop-table : goal.invariant-loop-table
invariant-loop-table g l = Before table_line l.fn.begun (g.W.Write.contents l.initial.out) l.so_far (g.W.Write.contents l.out) l.tables l.table-index
