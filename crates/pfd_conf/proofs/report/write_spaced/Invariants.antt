use Rattle.pf_conf.proofs.Texts.{Before}
use Rattle.pfd_conf.proofs.Texts.{after_space}
use Rattle.pfd_conf.proofs.report.write_spaced.Given as goal

abbrev pub invariant-loop-word : goal.invariant-loop-word
invariant-loop-word g l = Before after_space l.fn.begun (g.W.Write.contents l.initial.out) l.so_far (g.W.Write.contents l.out) l.words
    l.word-index
