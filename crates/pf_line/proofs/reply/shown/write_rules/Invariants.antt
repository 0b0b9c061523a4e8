use Rattle.std.proofs.Common.{take}
use Rattle.pf_line.specs.{Reply.TextLines.WroteLines, Reply.Replies.rule_lines}
use Rattle.pf_line.proofs.reply.shown.write_rules.Given as goal

abbrev pub invariant-loop-number : goal.invariant-loop-number
invariant-loop-number g l = WroteLines l.so_far (g.W.Write.contents l.initial.out) (g.W.Write.contents l.out) (rule_lines 0 (take l.number l.rules))
