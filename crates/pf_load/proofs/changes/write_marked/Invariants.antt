use Rattle.std.proofs.Common.{◌++◌}
use Rattle.pf_form.specs.Form.Words.{Word}
use Rattle.pf_conf.specs.Commit.Lines.{newline}
use Rattle.pf_conf.proofs.CommitTexts.{Before}
use Rattle.pf_load.proofs.changes.write_marked.Given as goal

abbrev pub invariant-loop-text : goal.invariant-loop-text
invariant-loop-text g l = Before (λ (text : Word). l.mark ++ text ++ newline) l.fn.written (g.W.Write.contents l.initial.out) l.so_far (g.W.Write.contents l.out) l.texts l.text-index
