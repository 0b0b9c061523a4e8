use Rattle.pf_line.specs.Reply.StateTexts.{message_line}
use Rattle.pf_line.proofs.StateTexts.{one_more_of}
use Rattle.pf_line.proofs.reply.state_line.write_messages.Goals as goal

pub loop-message-preserved : goal.loop-message-preserved
loop-message-preserved g c =
    one_more_of (λ m. m.items) message_line c.loop-message.so_far c.write_message-so_far.result c.end_line-so_far.result (g.W.Write.contents c.args.out.now) (g.W.Write.contents c.loop-message.out) (g.W.Write.contents c.write_message-so_far.new.out) (g.W.Write.contents c.end_line-so_far.new.out) c.args.messages.now c.loop-message.message-index c.message-item.result c.loop-message-test.true c.message-item.is c.loop-message.invariant (rw c.deref.ensures.value at c.write_message-so_far.ensures) c.end_line-so_far.ensures
