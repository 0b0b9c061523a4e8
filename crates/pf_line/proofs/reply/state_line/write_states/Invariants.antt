use Rattle.std.proofs.Common.{take}
use Rattle.pf_line.specs.{Reply.TextLines.WroteLines, Reply.StateTexts.state_lines}
use Rattle.pf_line.proofs.reply.state_line.write_states.Given as goal

abbrev pub invariant-loop-state : goal.invariant-loop-state
invariant-loop-state g l = WroteLines l.so_far (g.W.Write.contents l.initial.out) (g.W.Write.contents l.out) (state_lines (take l.state-index l.states))
