use Rattle.pfd_conf.specs.Junit.{escaped}
use Rattle.pf_conf.proofs.Texts.{Before}
use Rattle.pfd_conf.proofs.junit.write_escaped.Given as goal

abbrev pub invariant-loop-byte : goal.invariant-loop-byte
invariant-loop-byte g l = Before escaped l.fn.begun (g.W.Write.contents l.initial.out) l.so_far (g.W.Write.contents l.out) l.text
    l.byte-index
