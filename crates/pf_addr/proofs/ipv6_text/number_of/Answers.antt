use Rattle.std.proofs.{Common.{◌≡◌, ℕ, ◌+◌, ◌*◌, ◌<◌, ◌≤◌, ◌^◌, length, refl, arith, add-one}, lemmas.Int.Digits.number_more, Math.Nat.{pow-le-pow_right, pow-succ'}}
use Rattle.pf_addr.proofs.ipv6_text.number_of.Goals as goal

grows : (i n g : ℕ) → n < 65536 ^ i → g < 65536 → n * 65536 + g < 65536 ^ (i + 1)
grows i n g small low = let p : 65536 ^ (i + 1) ≡ 65536 * 65536 ^ i = rw add-one (pow-succ' 65536 i) in omega (arith, p, small, low)

fits : (i n g : ℕ) → n < 65536 ^ i → g < 65536 → i < 8 → n * 65536 + g < 2 ^ 128
fits i n g small low lt =
    let base : 0 < 65536 = omega arith in
    let le : i + 1 ≤ 8 = omega arith in
    let most : 65536 ^ (i + 1) ≤ 65536 ^ 8 = pow-le-pow_right base le in
    omega (arith, grows i n g small low, most)

pub overflow_mul-number : goal.overflow_mul-number
overflow_mul-number c = omega (arith, fits c.loop-group.group-index c.loop-group.number 0 c.loop-group.invariant.small (omega arith) (omega arith))

pub overflow_add-number : goal.overflow_add-number
overflow_add-number c =
    let low : c.from.result < 65536 = omega (arith, c.fits-groups c.loop-group.group-index) in
    omega (arith, fits c.loop-group.group-index c.loop-group.number c.from.result c.loop-group.invariant.small low (omega arith))

pub loop-group-preserved : goal.loop-group-preserved
loop-group-preserved c =
    let low : c.from.result < 65536 = omega (arith, c.fits-groups c.loop-group.group-index) in
    let lt : c.loop-group.group-index < length c.args.groups.now = omega arith in
    let more = number_more 65536 c.args.groups.now c.loop-group.group-index lt in
    record {
      same = rw (more, c.from.ensures, c.loop-group.invariant.same) refl;
      small = grows c.loop-group.group-index c.loop-group.number c.from.result c.loop-group.invariant.small low;
    }
