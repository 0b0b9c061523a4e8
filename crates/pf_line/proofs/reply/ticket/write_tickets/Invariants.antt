use Rattle.pf_line.specs.Reply.TextLines.{GoesOn}
use Rattle.pf_line.proofs.Writers.{texts_from}
use Rattle.pf_line.proofs.reply.ticket.write_tickets.Given as goal

abbrev pub invariant-loop-i : goal.invariant-loop-i
invariant-loop-i g l = GoesOn l.fn.begun (g.W.Write.contents l.initial.out) l.so_far (g.W.Write.contents l.out) (texts_from l.given.first.epoch l.given.first.count l.i)
