-- Decimal numbers without zeros in front.
use Rattle.std.specs.{Prelude.{ℕ, ◌==◌, nat_le, ◌&&◌, not, Bool, false, List, [], ◌∷◌, length, Option, Some, None, Result, Ok, Err, if◌then◌else◌}, List.list_all}
use Rattle.pf_form.specs.Form.Numbers.{is_digit, number_of}
use Rattle.pf_values.specs.declared.{numbers.Mistake.Mistake, numbers.Mistake.TheVariants.Zeros}

abbrev pub Word : Type 0
Word = List ℕ

-- there are bytes, and each is a digit
abbrev pub is_digits : Word → Bool
is_digits text = not (length text == 0) && list_all is_digit text

abbrev pub has_zeros : Word → Bool
has_zeros [] = false
has_zeros (b ∷ []) = false
has_zeros (b ∷ c ∷ bs) = (b == 48) && is_digits (b ∷ c ∷ bs)

abbrev pub kept_between : ℕ → ℕ → Mistake → Option ℕ → Result ℕ Mistake
kept_between low high other None = Err other
kept_between low high other (Some n) = if nat_le low n && nat_le n high then Ok n else Err other

-- the number from `low` to `high` that at most five digits write
abbrev pub number_between : ℕ → ℕ → Word → Mistake → Result ℕ Mistake
number_between low high text other = if has_zeros text then Err Zeros else kept_between low high other (number_of 5 text)
