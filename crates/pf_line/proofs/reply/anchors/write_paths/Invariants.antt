use Rattle.std.proofs.Common.{take}
use Rattle.pf_line.specs.Reply.TextLines.{WroteLines}
use Rattle.pf_line.proofs.reply.anchors.write_paths.Given as goal

abbrev pub invariant-loop-path : goal.invariant-loop-path
invariant-loop-path g l = WroteLines l.so_far (g.W.Write.contents l.initial.out) (g.W.Write.contents l.out) (take l.path-index l.paths)
