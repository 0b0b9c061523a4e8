use Rattle.std.proofs.Common.{◌≡◌, drop, take}
use Rattle.pfd_conf.specs.Reports.{sayable, case_count, files_points}
use Rattle.pfd_conf.proofs.Texts.{WroteOf}
use Rattle.pfd_conf.proofs.firewall.Origins.write_all_points.Given as goal

abbrev pub invariant-loop-file : goal.invariant-loop-file
invariant-loop-file g l =
    (l.count ≡ sayable (case_count (take l.file-index l.tried)))
    × WroteOf (g.W.Write.contents l.fn.out) (g.W.Write.contents l.out) (files_points l.self 0 l.tried)
    (files_points l.self (case_count (take l.file-index l.tried)) (drop l.file-index l.tried))
