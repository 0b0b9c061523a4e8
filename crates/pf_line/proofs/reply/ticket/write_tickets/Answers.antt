use Rattle.pf_line.proofs.Writers.{still, one_more_ticket}
use Rattle.pf_line.proofs.reply.ticket.write_tickets.Goals as goal

pub loop-i-init : goal.loop-i-init
loop-i-init g c = still c.args.begun (g.W.Write.contents c.args.out.now)

pub loop-i-preserved : goal.loop-i-preserved
loop-i-preserved g c =
    one_more_ticket c.args.begun c.loop-i.so_far c.write_next-so_far.result (g.W.Write.contents c.args.out.now) (g.W.Write.contents c.loop-i.out) (g.W.Write.contents c.write_next-so_far.new.out) c.args.given.first.epoch c.args.given.first.count c.loop-i.i c.loop-i.invariant c.write_next-so_far.ensures
