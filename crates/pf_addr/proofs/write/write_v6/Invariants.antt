use Rattle.pf_addr.specs.Writing.{Continues}
use Rattle.pf_addr.proofs.Writers.{groups_to}
use Rattle.pf_addr.proofs.write.write_v6.Given as goal

abbrev pub invariant-loop-end : goal.invariant-loop-end
invariant-loop-end g l = Continues l.fn.so_far (g.W.Write.contents l.fn.out) l.so_far (g.W.Write.contents l.out) (groups_to l.number l.end-items l.end-index)
