use Rattle.std.proofs.Common.{take}
use Rattle.pf_addr.specs.Writing.{Continues}
use Rattle.pf_conf.specs.Shown.{rule_lines}
use Rattle.pf_conf.proofs.shown.write_rules.Given as goal

abbrev pub invariant-loop-number : goal.invariant-loop-number
invariant-loop-number g l = Continues l.fn.begun (g.W.Write.contents l.initial.out) l.so_far (g.W.Write.contents l.out) (rule_lines 0 (take l.number l.rules))
