use Rattle.std.proofs.Common.{◌+◌, drop}
use Rattle.pfd_conf.specs.Reports.{file_points, points_text}
use Rattle.pfd_conf.proofs.Texts.{WroteOf}
use Rattle.pfd_conf.proofs.firewall.Origins.write_points.Given as goal

abbrev pub invariant-loop-index : goal.invariant-loop-index
invariant-loop-index g l =
    WroteOf (g.W.Write.contents l.fn.out) (g.W.Write.contents l.out) (file_points l.self l.before l.tried)
    (points_text l.self l.tried (l.before + l.index) (drop l.index l.tried.outcomes))
