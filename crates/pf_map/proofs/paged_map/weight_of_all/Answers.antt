use Rattle.std.proofs.{Common.{take, arith}, lemmas.List.length-take}
use Rattle.pf_map.proofs.Weights.{light_sum}
use Rattle.pf_map.proofs.paged_map.weight_of_all.Goals as goal

pub overflow_add-weight : goal.overflow_add-weight
overflow_add-weight g c =
    let done = take c.loop-entry.entry-index c.args.entries.now in
    let is = c.loop-entry.invariant.0 in
    omega (
      arith,
      is.exact,
      light_sum g.W.Weigher.weight done is.light,
      length-take c.loop-entry.entry-index c.args.entries.now,
      c.loop-entry.auto.entry-index-end,
      c.loop-entry.invariant.1,
      c.from-weight.ensures,
      c.weigh.type_inv,
    )
