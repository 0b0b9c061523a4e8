use Rattle.pf_line.proofs.Writers.{one_more_path}
use Rattle.pf_line.proofs.reply.anchors.write_paths.Goals as goal

pub loop-path-preserved : goal.loop-path-preserved
loop-path-preserved g c =
    one_more_path c.loop-path.so_far c.write_path-so_far.result c.end_line-so_far.result (g.W.Write.contents c.args.out.now) (g.W.Write.contents c.loop-path.out) (g.W.Write.contents c.write_path-so_far.new.out) (g.W.Write.contents c.end_line-so_far.new.out) c.args.paths.now c.loop-path.path-index c.path-item.result c.loop-path-test.true c.path-item.is c.loop-path.invariant c.write_path-so_far.ensures c.end_line-so_far.ensures
