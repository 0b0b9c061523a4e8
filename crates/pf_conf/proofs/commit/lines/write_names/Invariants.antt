use Rattle.pf_conf.specs.Commit.Lines.{name_text}
use Rattle.pf_conf.proofs.CommitTexts.{Before}
use Rattle.pf_conf.proofs.commit.lines.write_names.Given as goal

abbrev pub invariant-loop-name : goal.invariant-loop-name
invariant-loop-name g l = Before name_text l.fn.begun (g.W.Write.contents l.initial.out) l.so_far (g.W.Write.contents l.out) l.names l.name-index
