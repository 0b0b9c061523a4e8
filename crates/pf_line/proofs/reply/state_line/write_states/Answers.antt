use Rattle.pf_line.specs.Reply.StateTexts.{state_line}
use Rattle.pf_line.proofs.StateTexts.{one_more}
use Rattle.pf_line.proofs.reply.state_line.write_states.Goals as goal

pub loop-state-preserved : goal.loop-state-preserved
loop-state-preserved g c =
    one_more state_line c.loop-state.so_far c.write_state-so_far.result c.end_line-so_far.result (g.W.Write.contents c.args.out.now) (g.W.Write.contents c.loop-state.out) (g.W.Write.contents c.write_state-so_far.new.out) (g.W.Write.contents c.end_line-so_far.new.out) c.args.states.now c.loop-state.state-index c.state-item.result c.loop-state-test.true c.state-item.is c.loop-state.invariant c.write_state-so_far.ensures c.end_line-so_far.ensures
