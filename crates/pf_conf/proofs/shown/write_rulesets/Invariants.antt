use Rattle.pf_conf.specs.Shown.{ruleset_lines}
use Rattle.pf_conf.proofs.Texts.{Before}
use Rattle.pf_conf.proofs.shown.write_rulesets.Given as goal

abbrev pub invariant-loop-ruleset : goal.invariant-loop-ruleset
invariant-loop-ruleset g l = Before ruleset_lines l.fn.begun (g.W.Write.contents l.initial.out) l.so_far (g.W.Write.contents l.out) l.rulesets l.ruleset-index
