use Rattle.pf_conf.specs.Commit.Lines.{begun_text}
use Rattle.pf_conf.proofs.CommitTexts.{Before}
use Rattle.pf_conf.proofs.commit.lines.write_all.Given as goal

abbrev pub invariant-loop-one : goal.invariant-loop-one
invariant-loop-one g l = Before begun_text l.fn.written (g.W.Write.contents l.initial.out) l.so_far (g.W.Write.contents l.out) l.begun l.one-index
