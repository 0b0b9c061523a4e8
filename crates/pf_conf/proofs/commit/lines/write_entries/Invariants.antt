use Rattle.std.proofs.Common.{codes, ◌++◌}
use Rattle.pf_table.specs.Entries.{PlainEntry}
use Rattle.pf_conf.specs.Tables.{entry_text}
use Rattle.pf_conf.proofs.CommitTexts.{Before}
use Rattle.pf_conf.proofs.commit.lines.write_entries.Given as goal

abbrev pub invariant-loop-entry : goal.invariant-loop-entry
invariant-loop-entry g l = Before (λ (e : PlainEntry). codes " " ++ entry_text e) l.fn.written (g.W.Write.contents l.initial.out) l.so_far (g.W.Write.contents l.out) l.entries l.entry-index
