use Rattle.std.proofs.Common.{◌≡◌, ◌++◌}
use Rattle.pf_map.proofs.by_flow.each_by_flow.Given as goal

abbrev pub invariant-loop-each : goal.invariant-loop-each
invariant-loop-each g l = l.flows.items ++ l.each-iterator.rest.items ≡ l.fn.hinted.items
