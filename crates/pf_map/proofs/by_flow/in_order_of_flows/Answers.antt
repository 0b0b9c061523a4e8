use Rattle.std.proofs.Common.{rules}
use Rattle.std.specs.Ordering.{is_lt}
use Rattle.std.proofs.lemmas.List.Sorted.{ranks_by, answers_always}
use Rattle.pf_map.proofs.by_flow.in_order_of_flows.Goals as goal

pub returns-clause-sorted : goal.returns-clause-sorted
returns-clause-sorted g c =
    let flow : g.row.N.Denot × g.row.V.Denot → g.row.F.Denot = λ e. g.V.Flowed.flow e.1 in
    c.in_ok-sort_by.ensures.sorted (λ a b. is_lt (g.F.Key.order (flow a) (flow b))) (ranks_by g.met.F.Key.total flow) (answers_always _ _ _ (λ f a r k h. search rules))
