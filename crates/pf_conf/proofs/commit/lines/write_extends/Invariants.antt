use Rattle.std.proofs.Common.{length}
use Rattle.pf_conf.specs.Commit.Lines.{table_text}
use Rattle.pf_conf.proofs.CommitTexts.{WroteParts}
use Rattle.pf_conf.proofs.commit.lines.write_extends.Given as goal

abbrev pub invariant-loop-left : goal.invariant-loop-left
invariant-loop-left g l = WroteParts (table_text l.table) l.fn.written (g.W.Write.contents l.initial.out) l.so_far (g.W.Write.contents l.out) l.fn.entries l.left

abbrev pub decreases-loop-left : goal.decreases-loop-left
decreases-loop-left g l = length l.left
