use Rattle.pf_conf.specs.Rulesets.{PlacedRule}
use Rattle.pf_conf.specs.Commit.Lines.{place_text, add_line}
use Rattle.pf_conf.proofs.CommitTexts.{Before}
use Rattle.pf_conf.proofs.commit.lines.write_adds.Given as goal

abbrev pub invariant-loop-rule : goal.invariant-loop-rule
invariant-loop-rule g l = Before (λ (r : PlacedRule). add_line (place_text l.path l.ticket) r.is) l.fn.written (g.W.Write.contents l.initial.out) l.so_far (g.W.Write.contents l.out) l.rules l.rule-index
