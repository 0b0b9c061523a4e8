-- Values of which there are few, each as one byte.
use Rattle.std.specs.Prelude.{ℕ, nat_lt, Bool, true, false}
use Rattle.pf_form.specs.Bytes.Forms.{nat, ByteForm, number, that}

-- one byte, less than this
unfoldable pub below : ℕ → ByteForm nat
below limit = that (λ b. nat_lt b limit) (number 1)

abbrev pub flag_byte : Bool → ℕ
flag_byte false = 0
flag_byte true = 1

abbrev pub flag : ByteForm nat
flag = below 2
