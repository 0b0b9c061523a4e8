use Rattle.pfd_conf.specs.Explaining.{line_of_match}
use Rattle.pf_conf.proofs.Texts.{Before}
use Rattle.pfd_conf.proofs.firewall.Origins.write_matches.Given as goal

abbrev pub invariant-loop-rule : goal.invariant-loop-rule
invariant-loop-rule g l =
    Before (line_of_match l.self.files l.self.rulesets) l.fn.begun (g.W.Write.contents l.initial.out) l.so_far
    (g.W.Write.contents l.out)
    l.matched l.rule-index
