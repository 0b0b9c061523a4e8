use Rattle.std.proofs.Common.{◌≡◌, take}
use Rattle.pfd_conf.specs.Reports.{counted}
use Rattle.pfd_conf.proofs.report.counted.Given as goal

abbrev pub invariant-loop-file : goal.invariant-loop-file
invariant-loop-file l = l.count ≡ counted l.holds (take l.file-index l.tried)
