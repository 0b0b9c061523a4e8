use Rattle.pfd_conf.specs.Covering.{line_of_rule}
use Rattle.pf_conf.proofs.Texts.{Before}
use Rattle.pfd_conf.proofs.firewall.Origins.write_lines.Given as goal

abbrev pub invariant-loop-rule : goal.invariant-loop-rule
invariant-loop-rule g l =
    Before (line_of_rule l.self.files l.self.rulesets) l.fn.begun (g.W.Write.contents l.initial.out) l.so_far
    (g.W.Write.contents l.out)
    l.rules l.rule-index
