use Rattle.std.proofs.Common.{◌≡◌, ◌<◌, ◌≤◌, ◌+◌, ◌^◌, suc, sym, arith}
use Rattle.std.proofs.Math.Nat.{pow-le-pow_right}
use Rattle.pf_addr.specs.Path.FirstBytes.{below}
use Rattle.pf_addr.proofs.FirstBytes.{next_byte}
use Rattle.pf_addr.proofs.path.keys.front_number.Goals as goal

pub overflow_mul-number : goal.overflow_mul-number
overflow_mul-number c =
    let few : c.loop-index.index ≤ 7 = omega (arith, c.loop-index-test.true) in
    let most : 256 ^ c.loop-index.index ≤ 256 ^ 7 = pow-le-pow_right (omega arith) few in
    let less : c.loop-index.number < 256 ^ c.loop-index.index = rw c.loop-index.invariant (below c.loop-index.index c.args.bytes.now) in
    omega (arith, most, less)

pub overflow_add-number : goal.overflow_add-number
overflow_add-number c =
    let few : c.loop-index.index ≤ 7 = omega (arith, c.loop-index-test.true) in
    let most : 256 ^ c.loop-index.index ≤ 256 ^ 7 = pow-le-pow_right (omega arith) few in
    let less : c.loop-index.number < 256 ^ c.loop-index.index = rw c.loop-index.invariant (below c.loop-index.index c.args.bytes.now) in
    omega (arith, most, less, c.byte_at.type_inv)

pub loop-index-preserved : goal.loop-index-preserved
loop-index-preserved c =
    let next : c.loop-index.index + 1 ≡ suc c.loop-index.index = omega arith in
    rw (next, c.loop-index.invariant, c.byte_at.ensures) (sym (next_byte c.loop-index.index c.args.bytes.now (λ i. omega (arith, c.type_inv.bytes i))))
