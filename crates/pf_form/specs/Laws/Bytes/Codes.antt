-- Flags can be written, and each has a byte of its own.
use Rattle.std.proofs.Common.{◌≡◌, ◌==◌, Bool, true, false, refl, arith}
use Rattle.pf_form.specs.{Bytes.Forms.Fits, Bytes.Codes.{below, flag, flag_byte}}

pub flag_fits : (b : Bool) → Fits flag (flag_byte b)
unfolding below
flag_fits true = (omega arith, refl)
flag_fits false = (omega arith, refl)

pub flag_again : (b : Bool) → (flag_byte b == 1) ≡ b
flag_again true = refl
flag_again false = refl
