use Rattle.std.proofs.Common.{◌≡◌, length}
use Rattle.std.specs.Ordering.{is_lt}
use Rattle.pf_map.specs.InOrder.{in_order}
use Rattle.pf_map.proofs.by_flow.are_apart.Given as goal

abbrev pub invariant-loop-rest : goal.invariant-loop-rest
invariant-loop-rest g l =
    in_order (λ (a b : g.row.N.Denot × g.row.V.Denot). is_lt (g.F.Key.order (g.V.Flowed.flow a.1) (g.V.Flowed.flow b.1))) l.rest
    ≡ in_order (λ (a b : g.row.N.Denot × g.row.V.Denot). is_lt (g.F.Key.order (g.V.Flowed.flow a.1) (g.V.Flowed.flow b.1))) l.hinted

abbrev pub decreases-loop-rest : goal.decreases-loop-rest
decreases-loop-rest g l = length l.rest
