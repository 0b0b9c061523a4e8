use Rattle.std.proofs.{Common.{◌≡◌, ℕ, ◌+◌, ◌*◌, ◌<◌, ◌≤◌, ◌^◌, List, length, take, get_or, refl, arith}, lemmas.Int.Digits.{digits_value_more, digits_value-lt}, lemmas.Str.Parse.digits_value-take-le, Math.Nat.pow-le-pow_right}
use Rattle.std.specs.{Char.digit_value, Str.Parse.{AllDigits, digits_value}}
use Rattle.pf_addr.proofs.ipv6_text.hex_value.Goals as goal

fits : (ds : List ℕ) (i v : ℕ) → AllDigits 16 ds → length ds ≤ 4 → i < length ds → v ≡ digits_value 16 (take i ds) → v * 16 + digit_value (get_or ds i 0) < 65536
fits ds i v all few lt is =
    let most : 16 ^ length ds ≤ 16 ^ 4 = let base : 0 < 16 = omega arith in pow-le-pow_right base few in
    omega (arith, is, digits_value_more 16 ds i lt, digits_value-take-le 16 ds (i + 1) (omega arith), digits_value-lt 16 ds all, most)

pub overflow_mul-value : goal.overflow_mul-value
overflow_mul-value c = omega (arith, fits c.args.digits.now c.loop-digit.digit-index c.loop-digit.value c.requires.digits c.requires.few c.loop-digit-test.true c.loop-digit.invariant)

pub overflow_add-value : goal.overflow_add-value
overflow_add-value c = omega (arith, c.digit_value.ensures, fits c.args.digits.now c.loop-digit.digit-index c.loop-digit.value c.requires.digits c.requires.few c.loop-digit-test.true c.loop-digit.invariant)

pub loop-digit-preserved : goal.loop-digit-preserved
loop-digit-preserved c = let more = digits_value_more 16 c.args.digits.now c.loop-digit.digit-index c.loop-digit-test.true in rw (more, c.digit_value.ensures, c.loop-digit.invariant) refl
