-- Whether the device failed in a call.
use Rattle.std.proofs.{Common.{◌≡◌, ◌+◌, ℕ, Bool, true, false, cond, arith}, lemmas.Bool.Decides.nat_tests}
use Rattle.std.specs.Prelude.{nat_lt}

-- it did where its count rose
pub one-failed : (old new : ℕ) (b : Bool) → new ≡ old + cond b 1 0 → new ≡ old + cond (nat_lt old new) 1 0
one-failed old new true is = grind (arith, nat_tests, is)
one-failed old new false is = grind (arith, nat_tests, is)
