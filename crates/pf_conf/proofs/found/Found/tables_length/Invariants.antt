use Rattle.std.proofs.Common.{◌≡◌, ◌-◌, ◌^◌, min, sum_by, codes, take}
use Rattle.pf_conf.specs.Resolving.{part_length}
use Rattle.pf_conf.proofs.found.Found.tables_length.Given as goal

abbrev pub invariant-loop-path : goal.invariant-loop-path
invariant-loop-path l = l.length ≡ min (sum_by (part_length (codes " table ")) (take l.path-index l.path-items)) (2 ^ 64 - 1)
