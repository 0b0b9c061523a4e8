use Rattle.pf_conf.specs.Commit.Lines.{add_lines}
use Rattle.pf_conf.proofs.CommitTexts.{Before}
use Rattle.pf_conf.proofs.commit.lines.write_rulesets.Given as goal

abbrev pub invariant-loop-ruleset : goal.invariant-loop-ruleset
invariant-loop-ruleset g l = Before (add_lines l.begun) l.fn.written (g.W.Write.contents l.initial.out) l.so_far (g.W.Write.contents l.out) l.rulesets l.ruleset-index
