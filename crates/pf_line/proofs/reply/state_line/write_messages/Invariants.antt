use Rattle.std.proofs.Common.{take}
use Rattle.std.specs.Prelude.{map}
use Rattle.pf_line.specs.{Reply.TextLines.WroteLines, Reply.StateTexts.message_lines}
use Rattle.pf_line.proofs.reply.state_line.write_messages.Given as goal

abbrev pub invariant-loop-message : goal.invariant-loop-message
invariant-loop-message g l = WroteLines l.so_far (g.W.Write.contents l.initial.out) (g.W.Write.contents l.out) (message_lines (map (λ m. m.items) (take l.message-index l.messages)))
