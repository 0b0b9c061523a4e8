use Rattle.std.proofs.Common.{take}
use Rattle.pf_line.specs.{Reply.TextLines.WroteLines, Reply.Replies.table_lines}
use Rattle.pf_line.proofs.reply.shown.write_tables.Given as goal

abbrev pub invariant-loop-table : goal.invariant-loop-table
invariant-loop-table g l = WroteLines l.so_far (g.W.Write.contents l.initial.out) (g.W.Write.contents l.out) (table_lines (take l.table-index l.tables))
