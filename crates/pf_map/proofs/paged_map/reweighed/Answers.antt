use Rattle.std.proofs.Common.{◌≡◌, ℕ, ◌<◌, subst, arith}
use Rattle.std.specs.Prelude.{◌^◌}
use Rattle.pf_map.specs.{Maps.entry_at, Weights.weight_of}
use Rattle.pf_map.proofs.Weights.{reweighed, weighs_enough}
use Rattle.pf_map.proofs.paged_map.reweighed.Goals as goal

pub overflow_sub-result : goal.overflow_sub-result
overflow_sub-result g c =
    let enough = weighs_enough g.met.K.Key.total g.met.K.Key.alike g.W.Weigher.weight c.args.map.now c.key.result.now c.args.weight c.weight_at-had.result
    c.weight_at-had.ensures.sorted c.requires c.weight_at-had.ensures.weight (subst (λ (n : ℕ). n < 2 ^ 64) c.len-count.ensures c.len-count.type_inv) in
    omega (arith, enough.0, c.from.ensures)

pub overflow_add-result : goal.overflow_add-result
overflow_add-result g c =
    let enough = weighs_enough g.met.K.Key.total g.met.K.Key.alike g.W.Weigher.weight c.args.map.now c.key.result.now c.args.weight c.weight_at-had.result
    c.weight_at-had.ensures.sorted c.requires c.weight_at-had.ensures.weight (subst (λ (n : ℕ). n < 2 ^ 64) c.len-count.ensures c.len-count.type_inv) in
    omega (arith, enough.0, enough.1, c.from.ensures, c.from-2.ensures, c.weight_kept-has.type_inv)

pub returns : goal.returns
returns g c =
    let enough = weighs_enough g.met.K.Key.total g.met.K.Key.alike g.W.Weigher.weight c.args.map.now c.key.result.now c.args.weight c.weight_at-had.result
    c.weight_at-had.ensures.sorted c.requires c.weight_at-had.ensures.weight (subst (λ (n : ℕ). n < 2 ^ 64) c.len-count.ensures c.len-count.type_inv) in
    let map = c.args.map.now in
    let change = c.args.change.now in
    let there : c.weight_at-had.result ≡ weight_of g.W.Weigher.weight (entry_at g.K.Key.order change.0 map) =
    subst (λ k. c.weight_at-had.result ≡ weight_of g.W.Weigher.weight (entry_at g.K.Key.order k map)) c.key.ensures c.weight_at-had.ensures.weight in
    reweighed g.met.K.Key.total g.met.K.Key.alike g.W.Weigher.weight map change.0 (g.V.Content.kept change.1) c.args.weight c.weight_at-had.result c.weight_kept-has.result _
    c.weight_at-had.ensures.sorted c.requires there c.weight_kept-has.ensures c.weight_kept-has.type_inv (omega (arith, enough.0, c.from.ensures, c.from-2.ensures))
