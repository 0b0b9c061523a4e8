use Rattle.pf_line.proofs.StateTexts.{one_more_byte}
use Rattle.pf_line.proofs.reply.state_line.write_hex.Goals as goal

pub loop-byte-preserved : goal.loop-byte-preserved
loop-byte-preserved g c =
    one_more_byte c.args.begun c.loop-byte.so_far c.write_byte-so_far.result (g.W.Write.contents c.args.out.now) (g.W.Write.contents c.loop-byte.out) (g.W.Write.contents c.write_byte-so_far.new.out) c.args.bytes.now c.loop-byte.byte-index c.loop-byte-test.true c.loop-byte.invariant c.write_byte-so_far.ensures
