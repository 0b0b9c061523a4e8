-- Numbers in decimal digits.
use Rattle.std.specs.{Prelude.{◌≡◌, ℕ, ◌*◌, ◌+◌, ◌-◌, ◌<◌, ◌≤◌, ◌^◌, ◌&&◌, nat_lt, nat_le, Bool, length, fold, Option, Some, None, if◌then◌else◌}, List.list_all, Str.Parse.{IsNumeral, digits_value}}
use Rattle.pf_form.specs.Form.Words.{Word}

-- 1 to so many digits, with leading zeros allowed, write the number
pub record IsNumber (most : ℕ) (w : Word) (n : ℕ) : Type 0 where
  pub digits : IsNumeral 10 w
  pub few : length w ≤ most
  pub value : digits_value 10 w ≡ n

-- and it has so many bits at most
pub record IsNumberIn (bits most : ℕ) (w : Word) (n : ℕ) : Type 0 where
  pub number : IsNumber most w n
  pub small : n < 2 ^ bits

-- ---- how it is read

abbrev pub is_digit : ℕ → Bool
is_digit b = nat_le 48 b && nat_le b 57

abbrev pub decimal_value : Word → ℕ
decimal_value = fold (λ v b. v * 10 + (b - 48)) 0

abbrev pub number_of : ℕ → Word → Option ℕ
number_of most w = if nat_lt 0 (length w) && nat_le (length w) most && list_all is_digit w then Some (decimal_value w) else None

-- a number of so many bits at most
abbrev pub of_bits : ℕ → Option ℕ → Option ℕ
of_bits bits None = None
of_bits bits (Some n) = if nat_lt n (2 ^ bits) then Some n else None

abbrev pub number_in : ℕ → ℕ → Word → Option ℕ
number_in bits most w = of_bits bits (number_of most w)
