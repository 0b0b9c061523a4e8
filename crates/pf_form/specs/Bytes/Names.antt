-- Names in fields of one width, filled with zeros.
use Rattle.std.specs.{Prelude.{◌==◌, ◌-◌, ℕ, nat_lt, Bool, true, List, [], ◌∷◌, ◌++◌, length, replicate, if◌then◌else◌}, List.{list_all, take_while}}
use Rattle.pf_form.specs.Bytes.Forms.{list, nat, ByteForm, number, times, that}

abbrev pub filled : ℕ → List ℕ → List ℕ
filled width name = name ++ replicate (width - length name) 0

abbrev pub are_zeros : List ℕ → Bool
are_zeros = list_all (λ b. b == 0)

-- no other byte comes after a zero
abbrev pub is_filled : List ℕ → Bool
is_filled [] = true
is_filled (b ∷ bytes) = if b == 0 then are_zeros bytes else is_filled bytes

-- A field of so many bytes. A name is seen with its zeros, so names that differ only in zeros at the end are seen as the same.
abbrev pub padded : ℕ → ByteForm (list nat)
padded width = that is_filled (times width (number 1))

-- the name in a field: what comes before its first zero
abbrev pub before_zero : List ℕ → List ℕ
before_zero = take_while (nat_lt 0)
