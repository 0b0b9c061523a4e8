use Rattle.std.proofs.Common.{◌≡◌, min, take}
use Rattle.std.specs.List.{sum_by}
use Rattle.pf_state.specs.Laws.Failover.{record_count}
use Rattle.pfd.proofs.log.deed.records_in.Given as goal

abbrev pub invariant-loop-group : goal.invariant-loop-group
invariant-loop-group l = l.records ≡ min (sum_by record_count (take l.group-index l.groups)) 18446744073709551615
